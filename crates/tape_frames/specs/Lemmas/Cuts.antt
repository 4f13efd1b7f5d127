-- Packets cut from a tape: their entries are a part of it.
use Rattle.std.proofs.Common.{◌≡◌, ℕ, ◌-◌, List, ◌++◌, take, drop, sym, ap, ◌∙◌}
use Rattle.std.proofs.lemmas.List.{append_assoc, take-append-drop}
use Rattle.tape_core.specs.declared.entry.Entry.{Entry}
use Rattle.tape_frames.specs.declared.version.Version.{Version}
use Rattle.tape_frames.specs.Cuts.{IsPartOf}
use Rattle.tape_frames.specs.Sources.{BeginsWith, cut_of, sendable}
use Rattle.tape_frames.specs.Versions.{entries_most, number_most}

-- some of the entries of a list are a part of what begins with it
pub take_is_part : (es tape : List Entry) (from many : ℕ) → BeginsWith es tape → IsPartOf (take many (drop from es)) tape
take_is_part es tape from many begin =
    let skipped = take from es in
    let left = drop from es in
    let after = drop many left in (
      skipped,
      after ++ begin.0,
      begin.1 ∙ ap (λ xs. xs ++ begin.0) (sym (take-append-drop from es)) ∙ append_assoc skipped left begin.0
          ∙ ap (λ xs. skipped ++ (xs ++ begin.0)) (sym (take-append-drop many left))
          ∙ ap (λ xs. skipped ++ xs) (append_assoc (take many left) after begin.0),
    )

-- the entries that packets of a version can state are a prefix
sendable_begins : (version : Version) (es tape : List Entry) → BeginsWith es tape → BeginsWith (sendable version es) tape
sendable_begins version es tape begin =
    let left = drop (number_most version) es in (
      left ++ begin.0,
      begin.1 ∙ ap (λ xs. xs ++ begin.0) (sym (take-append-drop (number_most version) es)) ∙ append_assoc (sendable version es) left begin.0,
    )

-- what is cut from a prefix of a tape, from a number on, is a part of the tape
pub cut_is_part : (version : Version) (es tape : List Entry) (from : ℕ) → BeginsWith es tape → IsPartOf (cut_of version es from) tape
cut_is_part version es tape from begin =
    take_is_part (sendable version es) tape (from - 1) (entries_most version) (sendable_begins version es tape begin)
