use Rattle.std.proofs.Common.{◌∙◌, Some, ap, sym}
use Rattle.tape_types.specs.Pieces.{pieces_left}
use Rattle.tape_types.proofs.KeptNames.{few_kept, kept_with-all, kept_with-next}
use Rattle.tape_types.proofs.header.kept_names.Goals as goal

pub loop-piece-preserved : goal.loop-piece-preserved
loop-piece-preserved g c =
    let tried = c.try_push-is_kept.ensures in
    record {
      can = tt;
      finite = tt;
      few = few_kept c.loop-piece.names c.try_push-is_kept.new.self c.try_push-is_kept.result c.loop-piece.invariant.few tried.variant tried.len tried.err;
      kept = kept_with-next g.N.Named.named c.loop-piece.names c.try_push-is_kept.new.self c.in-Some.piece.now (pieces_left c.next.new.self) c.in_ok-name.name
          c.try_push-is_kept.result c.in_ok-name.ensures.names tried.ok tried.err tried.full
          ∙ (rw c.in-Some.ensures.steps at c.loop-piece.invariant.kept);
    }

pub returns : goal.returns
returns g c =
    ap Some (sym (kept_with-all c.loop-piece.names.items c.loop-piece.invariant.few)) ∙ (rw c.in-None.ensures.steps.0 at c.loop-piece.invariant.kept)
