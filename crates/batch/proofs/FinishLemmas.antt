-- Shows that what was written of what was read is right for the input, and stays so when it is flushed.
use Rattle.std.proofs.Common.{◌≡◌, ◌⊎◌, ◌≤◌, ℕ, List, Option, Some, None, IfSome, Result, Ok, Err, inl, inr, length, refl, sym, true, false, ◌∙◌}
use Rattle.std.specs.Io.KnownBytes.{Keeps}
use Rattle.std.proofs.KnownBytes.{Appends-kept, Keeps-refl}
use Rattle.std.specs.List.{flat_map}
use Rattle.std.specs.Option.{option_map}
use Rattle.tape_types.specs.Names.{Names}
use Rattle.sale_matrix.specs.declared.matrix.Matrix.{Matrix}
use Rattle.batch.specs.Batch.{INPUT_MOST, answer_line, fault_line, input_listing, message_lines}
use Rattle.batch.specs.BatchEnds.{EndsAt, Wrote, WroteForMemory}
use Rattle.batch.specs.Ends.{end_of_reading}
use Rattle.batch.specs.Finish.{EndsAfterStop, Finishes, report_unless}
use Rattle.batch.specs.Reading.{GoesOn, ReadsBatch}
use Rattle.batch.specs.declared.batch_end.BatchEnd.{BatchEnd}
use Rattle.batch.specs.declared.batch_end.BatchEnd.TheVariants.{Done, BadHeader, TooLarge, ReadFault, WriteFault, OutOfMemory}
use Rattle.batch.specs.declared.day.BatchDay.{BatchDay}
use Rattle.tape_types.specs.declared.header_fault.HeaderFault.{HeaderFault}
use Rattle.batch.specs.declared.read_end.ReadEnd.{ReadEnd}
use Rattle.batch.specs.declared.read_end.ReadEnd.TheVariants.{TooLarge as ReadTooLarge, ReadFault as ReadFailed, OutOfMemory as ReadOutOfMemory}
use Rattle.batch.specs.declared.reading.ReadInput.{ReadInput}
use Rattle.batch.specs.declared.reading.ReadInput.TheVariants.{Answered, HeaderRefused}
use Rattle.batch.specs.declared.reading.UnreadInput.{UnreadInput}
use Rattle.batch.proofs.BatchLemmas.{Appends-same}
use Rattle.whole_io.specs.Lemmas.WriteLemmas.{WritesPrefix-kept, WritesPrefix-longer, WritesPrefix-whole}
use Rattle.batch.proofs.WrittenDay.{ReadsBatch-may, ReadsBatch-stop, ReadsBatch-text}

-- what was written is what the end says
pub Finishes-wrote : (matrix : Matrix) (read : ReadInput) (end : BatchEnd) (input : List ℕ) (old new : Option (List ℕ)) → ReadsBatch matrix read input
    → Finishes read end old new → Wrote matrix end input old new
Finishes-wrote matrix (Answered day) Done input old new read h = Appends-same old new _ _ (ReadsBatch-text matrix day input h.0 read) h.1
Finishes-wrote matrix (Answered day) OutOfMemory input old new read h = ReadsBatch-stop matrix day input old new read h
Finishes-wrote matrix (Answered day) WriteFault input old new read h = (_, ReadsBatch-may matrix day input read, h)
Finishes-wrote matrix (Answered day) BadHeader input old new read h = absurd h
Finishes-wrote matrix (Answered day) TooLarge input old new read h = absurd h
Finishes-wrote matrix (Answered day) ReadFault input old new read h = absurd h
Finishes-wrote matrix (HeaderRefused fault) BadHeader input old new read h = rw read h
Finishes-wrote matrix (HeaderRefused fault) WriteFault input old new read h = (fault_line fault, rw read refl, h)
Finishes-wrote matrix (HeaderRefused fault) Done input old new read h = absurd h
Finishes-wrote matrix (HeaderRefused fault) OutOfMemory input old new read h = absurd h
Finishes-wrote matrix (HeaderRefused fault) TooLarge input old new read h = absurd h
Finishes-wrote matrix (HeaderRefused fault) ReadFault input old new read h = absurd h

-- the end comes at that input
pub Finishes-ends : (matrix : Matrix) (read : ReadInput) (end : BatchEnd) (input : List ℕ) (old new : Option (List ℕ)) → ReadsBatch matrix read input
    → Finishes read end old new → length input ≤ INPUT_MOST → EndsAt end input
Finishes-ends matrix (Answered day) Done input old new read h fits = (fits, rw read.1 refl)
Finishes-ends matrix (Answered day) OutOfMemory input old new read h fits = tt
Finishes-ends matrix (Answered day) WriteFault input old new read h fits = fits
Finishes-ends matrix (Answered day) BadHeader input old new read h fits = absurd h
Finishes-ends matrix (Answered day) TooLarge input old new read h fits = absurd h
Finishes-ends matrix (Answered day) ReadFault input old new read h fits = absurd h
Finishes-ends matrix (HeaderRefused fault) BadHeader input old new read h fits = (fits, rw read refl)
Finishes-ends matrix (HeaderRefused fault) WriteFault input old new read h fits = fits
Finishes-ends matrix (HeaderRefused fault) Done input old new read h fits = absurd h
Finishes-ends matrix (HeaderRefused fault) OutOfMemory input old new read h fits = absurd h
Finishes-ends matrix (HeaderRefused fault) TooLarge input old new read h fits = absurd h
Finishes-ends matrix (HeaderRefused fault) ReadFault input old new read h fits = absurd h

-- what was read is not written at an end of reading
pub Finishes-silent : (read : ReadInput) (end : BatchEnd) (old new : Option (List ℕ)) → Finishes read end old new → (end ≡ TooLarge) ⊎ (end ≡ ReadFault) → ⊥
Finishes-silent (Answered day) end old new h (inl is) = rw is at h
Finishes-silent (Answered day) end old new h (inr is) = rw is at h
Finishes-silent (HeaderRefused fault) end old new h (inl is) = rw is at h
Finishes-silent (HeaderRefused fault) end old new h (inr is) = rw is at h

-- what was written stays so when it is flushed
pub Finishes-kept : (read : ReadInput) (end : BatchEnd) (old now new : Option (List ℕ)) → Finishes read end old now → Keeps now new → Finishes read end old new
Finishes-kept (Answered day) Done old now new h kept = (h.0, Appends-kept old now new _ h.1 kept)
Finishes-kept (Answered day) OutOfMemory old now new h kept = Appends-kept old now new _ h kept
Finishes-kept (Answered day) WriteFault old now new h kept = WritesPrefix-kept _ old now new h kept
Finishes-kept (Answered day) BadHeader old now new h kept = absurd h
Finishes-kept (Answered day) TooLarge old now new h kept = absurd h
Finishes-kept (Answered day) ReadFault old now new h kept = absurd h
Finishes-kept (HeaderRefused fault) BadHeader old now new h kept = Appends-kept old now new _ h kept
Finishes-kept (HeaderRefused fault) WriteFault old now new h kept = WritesPrefix-kept _ old now new h kept
Finishes-kept (HeaderRefused fault) Done old now new h kept = absurd h
Finishes-kept (HeaderRefused fault) OutOfMemory old now new h kept = absurd h
Finishes-kept (HeaderRefused fault) TooLarge old now new h kept = absurd h
Finishes-kept (HeaderRefused fault) ReadFault old now new h kept = absurd h

-- whatever was written is a prefix of the text if the flush fails
pub Finishes-fault : (read : ReadInput) (end : BatchEnd) (old new : Option (List ℕ)) → Finishes read end old new → Finishes read WriteFault old new
Finishes-fault (Answered day) Done old new h = WritesPrefix-whole _ old new h.1
Finishes-fault (Answered day) OutOfMemory old new h =
    WritesPrefix-longer (flat_map answer_line day.answers.items) (report_unless day.is_stopped day.tape) old new (WritesPrefix-whole _ old new h)
Finishes-fault (Answered day) WriteFault old new h = h
Finishes-fault (Answered day) BadHeader old new h = absurd h
Finishes-fault (Answered day) TooLarge old new h = absurd h
Finishes-fault (Answered day) ReadFault old new h = absurd h
Finishes-fault (HeaderRefused fault) BadHeader old new h = WritesPrefix-whole _ old new h
Finishes-fault (HeaderRefused fault) WriteFault old new h = h
Finishes-fault (HeaderRefused fault) Done old new h = absurd h
Finishes-fault (HeaderRefused fault) OutOfMemory old new h = absurd h
Finishes-fault (HeaderRefused fault) TooLarge old new h = absurd h
Finishes-fault (HeaderRefused fault) ReadFault old new h = absurd h

-- the end once it is flushed
pub Finishes-flushed : (read : ReadInput) (end ended : BatchEnd) (old now new : Option (List ℕ)) → Finishes read end old now → Keeps now new
    → (ended ≡ end) ⊎ (ended ≡ WriteFault) → Finishes read ended old new
Finishes-flushed read end ended old now new h kept (inl is) = rw is (Finishes-kept read end old now new h kept)
Finishes-flushed read end ended old now new h kept (inr is) = rw is (Finishes-fault read end old new (Finishes-kept read end old now new h kept))

-- if reading stopped, nothing was written
pub reading-wrote : (matrix : Matrix) (known : Option (List ℕ)) (end : ReadEnd) (held : Option (List ℕ)) → IfSome known (λ input. Wrote matrix (end_of_reading end) input held held)
reading-wrote matrix None end held = tt
reading-wrote matrix (Some input) ReadTooLarge held = Keeps-refl held
reading-wrote matrix (Some input) ReadFailed held = Keeps-refl held
reading-wrote matrix (Some input) ReadOutOfMemory held = without (input_listing input)
  where
    without : (listing : Result Names HeaderFault) → WroteForMemory matrix listing (message_lines input) held held
    without (Ok names) = inl (Keeps-refl held)
    without (Err fault) = Keeps-refl held

-- a day at one of whose lines memory ran out ends as it must if it was read whole
pub Finishes-stopped : (read : ReadInput) (end : BatchEnd) (old new : Option (List ℕ)) → Finishes read end old new → EndsAfterStop read end old new
Finishes-stopped (Answered day) Done old new h = λ stops. let clash : false ≡ true = sym h.0 ∙ stops in cc clash
Finishes-stopped (Answered day) OutOfMemory old new h = λ stops. h
Finishes-stopped (Answered day) WriteFault old new h = λ stops. tt
Finishes-stopped (Answered day) BadHeader old new h = absurd h
Finishes-stopped (Answered day) TooLarge old new h = absurd h
Finishes-stopped (Answered day) ReadFault old new h = absurd h
Finishes-stopped (HeaderRefused fault) end old new h = tt

-- and if reading stopped before
pub reading-stopped : (unread : UnreadInput) (read : Option ReadInput) (held : Option (List ℕ)) → GoesOn unread → read ≡ option_map (λ (day : BatchDay). Answered day) unread.day
    → IfSome read (λ read. EndsAfterStop read (end_of_reading unread.end) held held)
reading-stopped unread read held goes_on is = rw is (at unread.end unread.day goes_on)
  where
    at : (end : ReadEnd) (day : Option BatchDay) → (end ≡ ReadOutOfMemory → IfSome day (λ d. d.is_stopped ≡ false))
        → IfSome (option_map (λ (day : BatchDay). Answered day) day) (λ read. EndsAfterStop read (end_of_reading end) held held)
    at end None goes_on = tt
    at ReadTooLarge (Some day) goes_on = λ stops. tt
    at ReadFailed (Some day) goes_on = λ stops. tt
    at ReadOutOfMemory (Some day) goes_on = λ stops. let clash : false ≡ true = sym (goes_on refl) ∙ stops in cc clash
