-- Shows what was written of messages, whatever is known of the reader.
use Rattle.std.proofs.Common.{◌≡◌, ◌⊎◌, ℕ, inl, inr, refl, List, Option, Result, Some, None, Ok, Err, IfSome, OnOk, subst, sym}
use Rattle.std.specs.Io.KnownBytes.{Appends, Keeps}
use Rattle.reports.specs.declared.message.Message.{Message}
use Rattle.whole_io.specs.Writing.{WritesPrefix}
use Rattle.message_texts.specs.Ends.{WritesText, WritesTextPart}

module _ (Are : List ℕ → List Message → Type 0) (text : List Message → List ℕ) where
  -- a text was written
  pub text_written : {A E : Type 0} (known : Option (List ℕ)) (messages seen : List Message) (r : Result A E) (old new : Option (List ℕ)) → seen ≡ messages
      → IfSome known (λ input. Are input messages) → OnOk r (Appends old new (text seen)) → IfSome known (λ input. OnOk r (WritesText (Are input) text old new))
  text_written None messages seen r old new same are written = tt
  text_written (Some input) messages seen (Err end) old new same are written = tt
  text_written (Some input) messages seen (Ok value) old new same are written =
      record { messages = seen; are = subst (Are input) (sym same) are; written = written }

  -- a part of a text was written
  pub text_part : (known : Option (List ℕ)) (messages seen : List Message) (old new : Option (List ℕ)) → seen ≡ messages
      → IfSome known (λ input. Are input messages) → WritesPrefix (text seen) old new → IfSome known (λ input. WritesTextPart (Are input) text old new)
  text_part None messages seen old new same are written = tt
  text_part (Some input) messages seen old new same are written =
      record { messages = seen; are = subst (Are input) (sym same) are; written = written }

  -- if memory ran out, a part of a text was written
  pub text_part-memory : (known : Option (List ℕ)) (messages seen : List Message) (old new : Option (List ℕ)) → seen ≡ messages
      → IfSome known (λ input. Are input messages) → WritesPrefix (text seen) old new
      → IfSome known (λ input. Keeps old new ⊎ WritesTextPart (Are input) text old new)
  text_part-memory None messages seen old new same are written = tt
  text_part-memory (Some input) messages seen old new same are written =
      inr (record { messages = seen; are = subst (Are input) (sym same) are; written = written })

  -- if memory ran out before, nothing was
  pub text_kept : (known held : Option (List ℕ)) → IfSome known (λ input. Keeps held held ⊎ WritesTextPart (Are input) text held held)
  text_kept None held = tt
  text_kept (Some input) None = inl tt
  text_kept (Some input) (Some bytes) = inl refl
