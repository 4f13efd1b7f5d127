-- Shows which messages the lines that were taken of a text have.
use Rattle.std.proofs.Common.{◌≡◌, ◌⊎◌, ◌+◌, ◌∷◌, ◌++◌, ◌∙◌, [], ℕ, List, Option, Some, None, IfSome, IfOk, IfErr, Result, Ok, Err, Bool, true, false, if◌then◌else◌}
use Rattle.std.proofs.Common.{ap, drop, inl, inr, length, refl, slice_index_or, sym, append_assoc, fold, unwrap_or}
use Rattle.std.proofs.lemmas.List.Sums.{fold-append, fold_push}
use Rattle.std.specs.Io.KnownBytes.{IsAtEnd}
use Rattle.batch.specs.Batch.{line_at, message_lines}
use Rattle.batch.specs.Lines.{lines_of}
use Rattle.batch.specs.MessageLine.{line_message}
use Rattle.batch.specs.declared.batch_refusal.BatchRefusal.{BatchRefusal}
use Rattle.tape_types.specs.declared.header_fault.HeaderFault.{HeaderFault}
use Rattle.tape_types.specs.declared.header_fault.HeaderFault.TheVariants.{BadListing}
use Rattle.tape_types.specs.declared.listing_fault.ListingFault.TheVariants.{OutOfMemory as ListingOutOfMemory}
use Rattle.std.specs.Option.{option_map}
use Rattle.reports.specs.declared.message.Message.{Message}
use Rattle.message_texts.specs.DecodedTexts.{FIRST_LINE, IsLinesEnd, IsText, IsTextEnd, as_line, header_fault, line_read, lines_messages, text_messages, with_line}
use Rattle.message_texts.specs.TextLines.{TakesLines}
use Rattle.message_texts.specs.declared.line_fault.LineFault.{LineFault}
use Rattle.message_texts.specs.declared.line_fault.LineFault.TheVariants as fault
use Rattle.message_texts.specs.declared.text_end.TextEnd.{TextEnd}
use Rattle.message_texts.specs.declared.text_end.TextEnd.TheVariants.{Line, ReadFault, OutOfMemory, WriteFault}

-- ## The lines after a header

-- a line that is wrong stays wrong, whatever follows
lines_wrong : (end : TextEnd) (lines : List (List ℕ)) → fold with_line (Err end) lines ≡ Err end
unfolding with_line
lines_wrong end [] = refl
lines_wrong end (line ∷ lines) = lines_wrong end lines

-- of a text these messages' lines were taken, and this is left
pub record HasLines (left : Option (List ℕ)) (messages : List Message) (bytes : List ℕ) : Type 0 where
  pub lines : List (List ℕ)
  pub rest : List ℕ
  pub known : left ≡ Some rest
  pub split : lines_of bytes ≡ lines ++ lines_of rest
  pub are : lines_messages lines ≡ Ok messages

-- no line was taken
pub has_lines-none : (known : Option (List ℕ)) (messages : List Message) → messages ≡ [] → IfSome known (HasLines known messages)
has_lines-none None messages none = tt
has_lines-none (Some bytes) messages none = record { lines = []; rest = bytes; known = refl; split = refl; are = rw none refl }

-- one more line was taken
lines_split : (left now : Option (List ℕ)) (messages : List Message) (bytes line : List ℕ) → HasLines left messages bytes → TakesLines left now (line ∷ [])
    → (had : HasLines left messages bytes) × (rest : List ℕ) × (now ≡ Some rest) × (lines_of bytes ≡ had.lines ++ line ∷ lines_of rest)
lines_split None now messages bytes line had took = cc (had.known)
lines_split (Some x) None messages bytes line had took = absurd took
lines_split (Some x) (Some y) messages bytes line had took =
    let same : had.rest ≡ x = cc (had.known) in
    (had, y, refl, had.split ∙ ap (λ (l : List ℕ). had.lines ++ lines_of l) same ∙ ap (λ (l : List (List ℕ)). had.lines ++ l) took)

-- the message of one more line
pub has_lines-more : (known left now : Option (List ℕ)) (messages : List Message) (line : List ℕ) (number : ℕ) (message : Message) (some : Bool)
    → IfSome known (HasLines left messages) → TakesLines left now (if some then line ∷ [] else []) → some ≡ true → number ≡ length messages + FIRST_LINE → line_read number line ≡ Ok message
    → IfSome known (HasLines now (messages ++ message ∷ []))
unfolding with_line
has_lines-more None left now messages line number message some had took there count is = tt
has_lines-more (Some bytes) left now messages line number message some had took there count is =
    let (before, rest, known, split) = lines_split left now messages bytes line had (rw there at took) in
    record {
      lines = before.lines ++ line ∷ [];
      rest = rest;
      known = known;
      split = split ∙ sym (append_assoc before.lines (line ∷ []) (lines_of rest));
      are = fold_push with_line (Ok []) before.lines line ∙ rw (before.are, ← count, is) refl;
    }

-- all lines were taken
pub has_lines-all : (known left : Option (List ℕ)) (messages : List Message) → IfSome known (HasLines left messages) → IsAtEnd left
    → IfSome known (λ bytes. lines_messages (lines_of bytes) ≡ Ok messages)
has_lines-all None left messages had end = tt
has_lines-all (Some bytes) None messages had end = cc (had.known)
has_lines-all (Some bytes) (Some x) messages had end =
    let same : had.rest ≡ [] = cc (had.known, end) in
    let whole : lines_of bytes ≡ had.lines ++ [] = had.split ∙ ap (λ (l : List ℕ). had.lines ++ lines_of l) same in
    ap lines_messages whole ∙ fold-append with_line (Ok []) had.lines [] ∙ had.are

-- a line's fault is that of its number
line_fault-is : (number : ℕ) (read : Result Message BatchRefusal) (end : TextEnd) → as_line number read ≡ Err end
    → (wrong : LineFault) × (end ≡ Line number wrong)
line_fault-is number (Ok message) end is = cc
line_fault-is number (Err refusal) end is = (fault.Message refusal, cc)

-- a line is wrong
pub has_lines-wrong : (known left now : Option (List ℕ)) (messages : List Message) (line : List ℕ) (number : ℕ) (end : TextEnd) (some : Bool)
    → IfSome known (HasLines left messages) → TakesLines left now (if some then line ∷ [] else []) → some ≡ true → number ≡ length messages + FIRST_LINE → line_read number line ≡ Err end
    → IfSome known (λ bytes. IsLinesEnd (lines_of bytes) end)
unfolding with_line
has_lines-wrong None left now messages line number end some had took there count is = tt
has_lines-wrong (Some bytes) left now messages line number end some had took there count is =
    let (before, rest, known, split) = lines_split left now messages bytes line had (rw there at took) in
    let here : with_line (lines_messages before.lines) line ≡ Err end = rw (before.are, ← count, is) refl in
    let whole : lines_messages (lines_of bytes) ≡ Err end =
    ap lines_messages split ∙ fold-append with_line (Ok []) before.lines (line ∷ lines_of rest)
    ∙ ap (λ (r : Result (List Message) TextEnd). fold with_line r (lines_of rest)) here ∙ lines_wrong end (lines_of rest) in
    let (wrong, same) = line_fault-is number (line_message line) end is in
    rw same (rw same at whole)

-- ## The header

-- of a text the two lines of the header were taken, and this is left
pub record HasHeader (left : Option (List ℕ)) (first second bytes : List ℕ) : Type 0 where
  pub rest : List ℕ
  pub known : left ≡ Some rest
  pub first_is : first ≡ line_at bytes 0
  pub second_is : second ≡ line_at bytes 1
  pub below : message_lines bytes ≡ lines_of rest

-- the first line was taken, or there was none
line_taken : (x y line : List ℕ) (some : Bool) → TakesLines (Some x) (Some y) (if some then line ∷ [] else [])
    → (some ≡ false → IsAtEnd (Some x) × (line ≡ [])) → (line ≡ line_at x 0) × (lines_of y ≡ drop 1 (lines_of x))
line_taken x y line true took none = (rw took refl, rw took refl)
line_taken x y line false took none =
    let end = none refl in
    (rw end.0 end.1, sym took ∙ rw end.0 refl)

-- the second line is the first of those behind the first
second_line : (lines : List (List ℕ)) → slice_index_or lines 1 [] ≡ slice_index_or (drop 1 lines) 0 []
second_line [] = refl
second_line (first ∷ lines) = refl

-- the lines after the second are those after the first of the rest
other_lines : (lines : List (List ℕ)) → drop 2 lines ≡ drop 1 (drop 1 lines)
other_lines [] = refl
other_lines (first ∷ lines) = refl

-- two lines that were taken one after the other from known bytes are the header
pub has_header : (a b c : Option (List ℕ)) (some1 some2 : Bool) (first second : List ℕ)
    → TakesLines a b (if some1 then first ∷ [] else []) → (some1 ≡ false → IsAtEnd a × (first ≡ []))
    → TakesLines b c (if some2 then second ∷ [] else []) → (some2 ≡ false → IsAtEnd b × (second ≡ []))
    → IfSome a (HasHeader c first second)
has_header None b c some1 some2 first second took1 none1 took2 none2 = tt
has_header (Some x) None c some1 some2 first second took1 none1 took2 none2 = absurd took1
has_header (Some x) (Some y) None some1 some2 first second took1 none1 took2 none2 = absurd took2
has_header (Some x) (Some y) (Some z) some1 some2 first second took1 none1 took2 none2 =
    let one = line_taken x y first some1 took1 none1 in
    let two = line_taken y z second some2 took2 none2 in
    record {
      rest = z;
      known = refl;
      first_is = one.0;
      second_is = two.0 ∙ rw one.1 (sym (second_line (lines_of x)));
      below = other_lines (lines_of x) ∙ ap (drop 1) (sym one.1) ∙ sym two.1;
    }

-- a header's fault is told, or memory ran out
pub header_told : (number : ℕ) (wrong : Option HeaderFault) (is : HeaderFault) (end : TextEnd) → is ≡ unwrap_or wrong (BadListing ListingOutOfMemory)
    → (end ≡ OutOfMemory) ⊎ (end ≡ Line number (fault.Header is)) → (is ≡ BadListing ListingOutOfMemory → end ≡ OutOfMemory)
    → (end ≡ OutOfMemory) ⊎ (option_map (λ wrong. Line number (fault.Header wrong)) wrong ≡ Some end)
header_told number wrong is end why (inl memory) only = inl memory
header_told number None is end why (inr line) only = inl (only why)
header_told number (Some other) is end why (inr line) only = inr (cc (why, line))

-- a header's fault is the text's
pub header_wrong : (known left : Option (List ℕ)) (first second : List ℕ) (end : TextEnd) → IfSome known (HasHeader left first second)
    → (end ≡ OutOfMemory) ⊎ (header_fault first second ≡ Some end) → IfSome known (λ input. IsTextEnd input end)
unfolding text_messages
header_wrong None left first second end had why = tt
header_wrong (Some bytes) left first second end had (inl memory) = rw memory tt
header_wrong (Some bytes) left first second end had (inr wrong) = cases end (told wrong)
  where
    told : header_fault first second ≡ Some end → text_messages bytes ≡ Err end
    told wrong = rw (← had.first_is, ← had.second_is, wrong) refl

    cases : (end : TextEnd) → text_messages bytes ≡ Err end → IsTextEnd bytes end
    cases (Line number wrong) is = is
    cases ReadFault is = tt
    cases OutOfMemory is = tt
    cases WriteFault is = tt

-- the messages after a header without a fault are the text's
messages_of_text : (bytes first second rest : List ℕ) (left : Option (List ℕ)) (read : Result (List Message) TextEnd) → HasHeader left first second bytes
    → header_fault first second ≡ None → left ≡ Some rest → lines_messages (lines_of rest) ≡ read → text_messages bytes ≡ read
unfolding text_messages
messages_of_text bytes first second rest left read had fine known is =
    let same : had.rest ≡ rest = cc (had.known, known) in
    rw (← had.first_is, ← had.second_is, fine, had.below, same) is

-- all lines were read
pub text_read : {A : Type 0} (items : A → List Message) (known left : Option (List ℕ)) (first second : List ℕ) (r : Result A TextEnd)
    → IfSome known (HasHeader left first second) → header_fault first second ≡ None
    → IfSome left (λ rest. IfOk r (λ messages. lines_messages (lines_of rest) ≡ Ok (items messages)))
    → IfSome known (λ input. IfOk r (λ messages. IsText input (items messages)))
text_read items None left first second r had fine read = tt
text_read items (Some bytes) left first second (Err end) had fine read = tt
text_read items (Some bytes) None first second (Ok messages) had fine read = cc (had.known)
text_read items (Some bytes) (Some rest) first second (Ok messages) had fine read =
    messages_of_text bytes first second rest (Some rest) (Ok (items messages)) had fine refl read

-- a line below the header is wrong, or reading ended
pub text_wrong : {A : Type 0} (known left : Option (List ℕ)) (first second : List ℕ) (r : Result A TextEnd)
    → IfSome known (HasHeader left first second) → header_fault first second ≡ None
    → IfSome left (λ rest. IfErr r (IsLinesEnd (lines_of rest)))
    → IfSome known (λ input. IfErr r (IsTextEnd input))
text_wrong None left first second r had fine wrong = tt
text_wrong (Some bytes) left first second (Ok messages) had fine wrong = tt
text_wrong (Some bytes) None first second (Err end) had fine wrong = cc (had.known)
text_wrong (Some bytes) (Some rest) first second (Err (Line number told)) had fine wrong =
    messages_of_text bytes first second rest (Some rest) (Err (Line number told)) had fine refl wrong
text_wrong (Some bytes) (Some rest) first second (Err ReadFault) had fine wrong = tt
text_wrong (Some bytes) (Some rest) first second (Err OutOfMemory) had fine wrong = tt
text_wrong (Some bytes) (Some rest) first second (Err WriteFault) had fine wrong = tt
