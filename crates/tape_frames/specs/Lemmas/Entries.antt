-- The bytes spell the entries that are read from them, and spelled entries are read again.
use Rattle.std.proofs.Common.{◌≡◌, ℕ, zero, suc, ◌+◌, List, [], ◌∷◌, ◌++◌, ◌==◌, length, drop, Option}
use Rattle.std.proofs.Common.{Some, None, Result, Ok, Err, refl, sym, ap, subst, ◌∙◌, append_assoc, arith}
use Rattle.std.specs.Prelude.{All, IfSome, flat_map}
use Rattle.std.specs.Int.{w32, to_be_bytes}
use Rattle.std.proofs.lemmas.Bool.{eqb-true}
use Rattle.std.proofs.lemmas.Bool.Decides.{Decides-eqb}
use Rattle.std.proofs.lemmas.List.{drop_at, take-append-drop}
use Rattle.std.proofs.lemmas.List.Elements.{All-cons, All-head, All-nil, All-tail}
use Rattle.reports.specs.declared.fault.MessageFault.{MessageFault}
use Rattle.reports.specs.declared.message.Message.{Message}
use Rattle.reports.specs.Fields.{ranged_at}
use Rattle.reports.specs.Messages.{named_target}
use Rattle.reports.specs.Reading.{message_at}
use Rattle.reports.specs.Spelling.{IsMessage, spelling}
use Rattle.reports.specs.Lemmas.Fields.{AreBytes, AreBytes-drop, IsReader, Takes, Takes-then, bind_ok, chosen, first_taken, ok_is, ranged_reader, wide32}
use Rattle.reports.specs.Lemmas.Messages.{message_at-spelling, message_takes}
use Rattle.scratch_fold.specs.declared.summary.Summary.{Summary}
use Rattle.tape_core.specs.declared.entry.Entry.{Entry}
use Rattle.tape_frames.specs.declared.packet_fault.PacketFault.{PacketFault}
use Rattle.tape_frames.specs.declared.packet_fault.PacketFault.TheVariants.{Short, BadEntry, NotInOrder}
use Rattle.tape_frames.specs.declared.version.Version.{Version}
use Rattle.tape_frames.specs.PacketEntries.{CarriesFor, IsNumberedFrom}
use Rattle.tape_frames.specs.Versions.{IsNumberIn, number_most}
use Rattle.tape_frames.specs.Lemmas.Versions.{number_most-within}
use Rattle.tape_frames.specs.Spelling.{IsEntry, IsSummary, carried_text, entry_text}
use Rattle.tape_frames.specs.Reading.{carried_at, entries_at, entry_at, message_of, numbered_at}
use Rattle.tape_frames.specs.Lemmas.Summaries.{summary_reader}

-- ---- one entry

-- the tape number of an entry
number_reader : (version : Version) → IsReader (ranged_at Short w32 1 (number_most version) BadEntry) (to_be_bytes w32) (IsNumberIn version)
number_reader version = ranged_reader Short wide32 1 (number_most version) BadEntry (omega (arith, number_most-within version))

-- the bytes spell the message that is read in an entry
message_taken : (bytes : List ℕ) (read : Result (Message × ℕ) MessageFault) (x : Message × List ℕ) → AreBytes bytes → message_at bytes ≡ read
    → message_of bytes read ≡ Ok x → Takes bytes (spelling x.0) x.1 × IsMessage x.0
message_taken bytes (Ok y) x fits read e =
    let spelled = message_takes bytes y fits read in
    let taken : Takes bytes (spelling y.0) (drop y.1 bytes) = record {
      parts = sym (take-append-drop y.1 bytes) ∙ ap (λ (t : List ℕ). t ++ drop y.1 bytes) spelled.2;
      rest_fits = AreBytes-drop y.1 bytes fits;
    } in
    let made : Message × List ℕ = (y.0, drop y.1 bytes) in
    subst (λ (z : Message × List ℕ). Takes bytes (spelling z.0) z.1 × IsMessage z.0) {x = made} (ok_is Short made x e) (taken, spelled.0)
message_taken bytes (Err fault) x fits read e = absurd cc

-- a message in an entry
message_reader : IsReader (λ bytes. message_of bytes (message_at bytes)) spelling IsMessage
message_reader = record {
  takes = λ bytes x fits e. message_taken bytes (message_at bytes) x fits refl e;
  again = λ m rest fits.
      let rest_is : drop (length (spelling m)) (spelling m ++ rest) ≡ rest = drop_at (spelling m) rest (length (spelling m)) refl in
      ap (message_of (spelling m ++ rest)) (message_at-spelling m rest fits) ∙ ap (λ (t : List ℕ). Ok (m, t)) rest_is;
}

-- what a kind carries is in its ranges
abbrev IsCarried : Version → Option ℕ → Option Summary → Type 0
IsCarried version named after = IfSome after (IsSummary version) × CarriesFor named after

-- a required summary is read again
some_again : (version : Version) (target : ℕ) (after : Option Summary) (rest : List ℕ) → IsCarried version (Some target) after
    → carried_at version (Some target) (carried_text after ++ rest) ≡ Ok (after, rest)
unfolding carried_at
some_again version target None rest fits = absurd (cc fits.1)
some_again version target (Some z) rest fits = rw ((summary_reader version).again z rest fits.0) refl

-- what is carried, and the bytes after it
abbrev answer : Option Summary → List ℕ → Result (Option Summary × List ℕ) PacketFault
answer after rest = Ok (after, rest)

-- nothing is carried, and nothing is read
none_again : (after : Option Summary) (rest : List ℕ) → after ≡ None → answer None (carried_text after ++ rest) ≡ answer after rest
none_again None rest is = refl
none_again (Some z) rest is = absurd (cc is)

-- the bytes spell what a kind carries, and it is read again
carried_reader : (version : Version) (named : Option ℕ) → IsReader (carried_at version named) carried_text (IsCarried version named)
unfolding carried_at
carried_reader version None = record {
  takes = λ bytes x fits e.
      let made : Option Summary × List ℕ = (None, bytes) in
      let taken : Takes bytes [] bytes = record { parts = refl; rest_fits = fits } in
      subst (λ (y : Option Summary × List ℕ). Takes bytes (carried_text y.0) y.1 × IsCarried version None y.0) {x = made} (ok_is Short made x e)
      (taken, (tt, refl));
  again = λ after rest fits. none_again after rest fits.1;
}
carried_reader version (Some target) = record {
  takes = λ bytes x fits e.
      let a = first_taken (summary_reader version) bytes _ x fits e in
      let made : Option Summary × List ℕ = (Some a.0.0, a.0.1) in
      subst (λ (y : Option Summary × List ℕ). Takes bytes (carried_text y.0) y.1 × IsCarried version (Some target) y.0) {x = made} (ok_is Short made x a.3)
      (a.1, (a.2, refl));
  again = λ after rest fits. some_again version target after rest fits;
}

-- an entry: its parts in a row
pub entry_reader : (version : Version) → IsReader (entry_at version) entry_text (IsEntry version)
unfolding entry_at
entry_reader version = record {
  takes = λ bytes x fits e.
      let n = first_taken (number_reader version) bytes _ x fits e in
      let m = first_taken message_reader n.0.1 _ x n.1.rest_fits n.3 in
      let a = first_taken (carried_reader version (named_target m.0.0)) m.0.1 _ x m.1.rest_fits m.3 in
      let made : Entry × List ℕ = (record { number = n.0.0; message = m.0.0; after = a.0.0 }, a.0.1) in
      subst (λ (y : Entry × List ℕ). Takes bytes (entry_text y.0) y.1 × IsEntry version y.0) {x = made} (ok_is Short made x a.3)
      (Takes-then n.1 (Takes-then m.1 a.1), record { number = n.2; message = m.2; after = a.2.0; carries = a.2.1 });
  again = λ e rest fits.
      let n = to_be_bytes w32 e.number in
      let m = spelling e.message in
      let a = carried_text e.after in
      let regrouped : entry_text e ++ rest ≡ n ++ (m ++ (a ++ rest)) = append_assoc n (m ++ a) rest ∙ ap (λ (t : List ℕ). n ++ t) (append_assoc m a rest) in
      let first = (number_reader version).again e.number (m ++ (a ++ rest)) fits.number in
      let second = message_reader.again e.message (a ++ rest) fits.message in
      let third = (carried_reader version (named_target e.message)).again e.after rest (fits.after, fits.carries) in
      ap (entry_at version) regrouped ∙ rw (first, second, third) refl;
}

-- ---- entries in a row

-- an entry of a number
numbered_reader : (version : Version) (number : ℕ) → IsReader (numbered_at version number) entry_text (λ e. IsEntry version e × (e.number ≡ number))
unfolding numbered_at
numbered_reader version number = record {
  takes = λ bytes x fits e.
      let a = first_taken (entry_reader version) bytes _ x fits e in
      let good = chosen (a.0.0.number == number) NotInOrder a.0 x a.3 in
      subst (λ (y : Entry × List ℕ). Takes bytes (entry_text y.0) y.1 × (IsEntry version y.0 × (y.0.number ≡ number))) good.1
      (a.1, (a.2, eqb-true a.0.0.number number good.0));
  again = λ e rest fits. rw ((entry_reader version).again e rest fits.0, (Decides-eqb e.number number).1 fits.1) refl;
}

-- as many entries as the count, numbered from here
abbrev pub AreEntries : Version → ℕ → ℕ → List Entry → Type 0
AreEntries version count number es = (length es ≡ count) × (IsNumberedFrom number es × All (IsEntry version) es)

-- the bytes spell the entries that are read from them
entries_take : (version : Version) (count number : ℕ) (bytes : List ℕ) (x : List Entry × List ℕ) → AreBytes bytes
    → entries_at version count number bytes ≡ Ok x → Takes bytes (flat_map entry_text x.0) x.1 × AreEntries version count number x.0
unfolding entries_at
entries_take version zero number bytes x fits e =
    let made : List Entry × List ℕ = ([], bytes) in
    let taken : Takes bytes [] bytes = record { parts = refl; rest_fits = fits } in
    subst (λ (y : List Entry × List ℕ). Takes bytes (flat_map entry_text y.0) y.1 × AreEntries version zero number y.0) {x = made} (ok_is Short made x e)
    (taken, (refl, (tt, All-nil (IsEntry version))))
entries_take version (suc count) number bytes x fits e =
    let a = first_taken (numbered_reader version number) bytes _ x fits e in
    let b = bind_ok (entries_at version count (number + 1) a.0.1) (λ others. Ok (a.0.0 ∷ others.0, others.1)) x a.3 in
    let others = entries_take version count (number + 1) a.0.1 b.0 a.1.rest_fits b.1 in
    let made : List Entry × List ℕ = (a.0.0 ∷ b.0.0, b.0.1) in
    subst (λ (y : List Entry × List ℕ). Takes bytes (flat_map entry_text y.0) y.1 × AreEntries version (suc count) number y.0) {x = made} (ok_is Short made x b.2)
    (Takes-then a.1 others.0, (ap suc others.1.0, ((a.2.1, others.1.1.0), All-cons (IsEntry version) a.0.0 b.0.0 a.2.0 others.1.1.1)))

-- entries that are spelled one after the other are read again
entries_again : (version : Version) (es : List Entry) (number : ℕ) (rest : List ℕ) → IsNumberedFrom number es → All (IsEntry version) es
    → entries_at version (length es) number (flat_map entry_text es ++ rest) ≡ Ok (es, rest)
unfolding entries_at
entries_again version [] number rest numbered all = refl
entries_again version (e ∷ es) number rest numbered all =
    let others = flat_map entry_text es in
    let regrouped : flat_map entry_text (e ∷ es) ++ rest ≡ entry_text e ++ (others ++ rest) = append_assoc (entry_text e) others rest in
    let first = (numbered_reader version number).again e (others ++ rest) (All-head (IsEntry version) e es all, numbered.0) in
    let more = entries_again version es (number + 1) rest numbered.1 (All-tail (IsEntry version) e es all) in
    ap (entries_at version (length (e ∷ es)) number) regrouped ∙ rw (first, more) refl

-- entries one after the other
pub entries_reader : (version : Version) (count number : ℕ) → IsReader (entries_at version count number) (flat_map entry_text) (AreEntries version count number)
entries_reader version count number = record {
  takes = entries_take version count number;
  again = λ es rest fits.
      subst (λ (n : ℕ). entries_at version n number (flat_map entry_text es ++ rest) ≡ Ok (es, rest)) fits.0 (entries_again version es number rest fits.1.0 fits.1.1);
}
