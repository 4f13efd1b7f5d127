-- Shows that a tape with the first entries of a legal one admits the message of the next entry, and makes that entry of it.
use Rattle.std.proofs.Common.{◌≡◌, ℕ, suc, ◌<◌, ◌==◌, cond, false, List, length, take, slice_get, Option, Some, None, ap, ◌∙◌, arith, sym}
use Rattle.std.proofs.lemmas.Option.{slice_get_within}
use Rattle.std.proofs.Math.ListN.{length-take}
use Rattle.sale_matrix.specs.declared.matrix.Matrix.{Matrix}
use Rattle.reports.specs.declared.message.Message.{Message}
use Rattle.tape_types.specs.Names.{Names, first_fault}
use Rattle.tape_core.specs.declared.entry.Entry.{Entry}
use Rattle.tape_core.specs.declared.refusal.Refusal.{Refusal}
use Rattle.tape_core.specs.declared.refusal.Refusal.TheVariants.{Closed, Full}
use Rattle.tape_core.specs.Tape.{TapeState, IsLegal, refusal, next_entry, message_cases, messages_of}
use Rattle.tape_core.specs.Laws.{limit_refusal}
use Rattle.tape_core.specs.Lemmas.LegalNext.{none_first}

-- an entry has the number of its position, from 1
pub number-of_position : (t : TapeState) (k : ℕ) (e : Entry) → IsLegal t → slice_get t.entries k ≡ Some e → e.number ≡ suc k
number-of_position t k e legal at =
    let within : k < length t.entries = slice_get_within t.entries k e at in
    ap (λ (x : Entry). x.number) (legal k e at).1 ∙ omega (arith, length-take k t.entries)

-- why a message is refused, whether or not the tape is closed or full
abbrev message_refusal : Names → Matrix → List Entry → Message → Option Refusal
message_refusal listing matrix entries m = first_fault (message_cases listing matrix (messages_of entries) m)

-- a tape with the first entries of a legal one refuses the message of the next only if it is closed or full itself
pub refusal-next : (t own : TapeState) (k : ℕ) (e : Entry) → IsLegal t → slice_get t.entries k ≡ Some e
    → own.listing ≡ t.listing → own.matrix ≡ t.matrix → own.entries ≡ take k t.entries → refusal own e.message ≡ limit_refusal own
refusal-next t own k e legal at listing matrix entries =
    let free = none_first false Closed _ (legal k e at).0 in
    let rest : message_refusal t.listing t.matrix (take k t.entries) e.message ≡ None = (none_first (length (take k t.entries) == t.limit) Full _ free.1).1 in
    let here : message_refusal own.listing own.matrix own.entries e.message ≡ None =
    (λ i. message_refusal (listing i) (matrix i) (entries i) e.message) ∙ rest in
    ap (λ o. cond own.closed (Some Closed) (cond (length own.entries == own.limit) (Some Full) o)) here

-- and makes that very entry of it
pub entry-next : (t own : TapeState) (k : ℕ) (e : Entry) → IsLegal t → slice_get t.entries k ≡ Some e → own.matrix ≡ t.matrix
    → own.entries ≡ take k t.entries
    → next_entry own.matrix own.entries e.message ≡ e
entry-next t own k e legal at matrix entries = (λ i. next_entry (matrix i) (entries i) e.message) ∙ sym (legal k e at).1
