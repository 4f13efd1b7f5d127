-- A text that is written piece by piece: how its written part and its rest go together.
use Rattle.std.proofs.Common.{◌≡◌, ◌++◌, ◌∙◌, [], ℕ, List, Option, refl, sym, ap, subst, append-nil, append_assoc, take, drop}
use Rattle.std.specs.Io.KnownBytes.{Appends, Keeps}
use Rattle.std.proofs.KnownBytes.{Appends-kept, Appends-nil, Appends-trans}
use Rattle.std.proofs.lemmas.List.{take-append-drop}
use Rattle.whole_io.specs.Writing.{WritesPrefix, WritesUpTo}

-- nothing is written of a text
pub WritesUpTo-none : (text : List ℕ) (known : Option (List ℕ)) → WritesUpTo text text known known
WritesUpTo-none text known = record { prefix = []; split = refl; written = Appends-nil known }

-- a whole text is written
pub WritesUpTo-whole : (text : List ℕ) (old new : Option (List ℕ)) → Appends old new text → WritesUpTo text [] old new
WritesUpTo-whole text old new written = record { prefix = text; split = sym (append-nil text); written = written }

-- if nothing is left, the whole text is written
pub WritesUpTo-all : (text : List ℕ) (old new : Option (List ℕ)) → WritesUpTo text [] old new → Appends old new text
WritesUpTo-all text old new all = subst (λ (l : List ℕ). Appends old new l) (sym (all.split ∙ append-nil all.prefix)) all.written

-- a text is written up to a rest, and that rest up to another
pub WritesUpTo-both : (text mid rest : List ℕ) (old now new : Option (List ℕ)) → WritesUpTo text mid old now → WritesUpTo mid rest now new
    → WritesUpTo text rest old new
WritesUpTo-both text mid rest old now new one two = record {
  prefix = one.prefix ++ two.prefix;
  split = one.split ∙ ap (λ (l : List ℕ). one.prefix ++ l) two.split ∙ sym (append_assoc one.prefix two.prefix rest);
  written = Appends-trans old now new one.prefix two.prefix one.written two.written;
}

-- a given number of bytes of a text are written
pub WritesUpTo-count : (text left : List ℕ) (old new : Option (List ℕ)) (n : ℕ) → Appends old new (take n text) → left ≡ drop n text
    → WritesUpTo text left old new
WritesUpTo-count text left old new n written is = record { prefix = take n text; split = rw is (sym (take-append-drop n text)); written = written }

-- no byte of a text is written
pub WritesUpTo-kept : (text : List ℕ) (old new : Option (List ℕ)) → Keeps old new → WritesUpTo text text old new
WritesUpTo-kept text old new kept = record { prefix = []; split = refl; written = Appends-kept old old new [] (Appends-nil old) kept }

-- a text gets longer, and its rest by as much
pub WritesUpTo-longer : (text rest more : List ℕ) (old new : Option (List ℕ)) → WritesUpTo text rest old new → WritesUpTo (text ++ more) (rest ++ more) old new
WritesUpTo-longer text rest more old new so_far = record {
  prefix = so_far.prefix;
  split = ap (λ (l : List ℕ). l ++ more) so_far.split ∙ append_assoc so_far.prefix rest more;
  written = so_far.written;
}

-- a prefix of a text is one of a longer text
pub WritesPrefix-longer : (text more : List ℕ) (old new : Option (List ℕ)) → WritesPrefix text old new → WritesPrefix (text ++ more) old new
WritesPrefix-longer text more old new prefix = (prefix.0 ++ more, WritesUpTo-longer text prefix.0 more old new prefix.1)

-- a text is written up to a rest, and then a prefix of that
pub WritesPrefix-after : (text mid : List ℕ) (old now new : Option (List ℕ)) → WritesUpTo text mid old now → WritesPrefix mid now new
    → WritesPrefix text old new
WritesPrefix-after text mid old now new one prefix = (prefix.0, WritesUpTo-both text mid prefix.0 old now new one prefix.1)

-- a whole text is a prefix of itself
pub WritesPrefix-whole : (text : List ℕ) (old new : Option (List ℕ)) → Appends old new text → WritesPrefix text old new
WritesPrefix-whole text old new written = ([], WritesUpTo-whole text old new written)

-- a prefix stays written if known bytes stay
pub WritesPrefix-kept : (text : List ℕ) (old now new : Option (List ℕ)) → WritesPrefix text old now → Keeps now new → WritesPrefix text old new
WritesPrefix-kept text old now new prefix kept = WritesPrefix-after text prefix.0 old now new prefix.1 (prefix.0, WritesUpTo-kept prefix.0 now new kept)

-- more is gathered after the rest of a text, and some of it is written
pub WritesUpTo-gathered : (text rest pushed left more : List ℕ) (old now new : Option (List ℕ)) → pushed ≡ rest ++ more
    → WritesUpTo text rest old now → WritesUpTo pushed left now new → WritesUpTo (text ++ more) left old new
WritesUpTo-gathered text rest pushed left more old now new is one two =
    WritesUpTo-both (text ++ more) pushed left old now new (rw is (WritesUpTo-longer text rest more old now one)) two

-- more is gathered after the rest of a text, and a prefix of it is written
pub WritesPrefix-gathered : (text rest pushed more : List ℕ) (old now new : Option (List ℕ)) → pushed ≡ rest ++ more
    → WritesUpTo text rest old now → WritesPrefix pushed now new → WritesPrefix (text ++ more) old new
WritesPrefix-gathered text rest pushed more old now new is one prefix =
    (prefix.0, WritesUpTo-gathered text rest pushed prefix.0 more old now new is one prefix.1)

-- a text is written, and then a prefix of another
pub WritesPrefix-then : (first second : List ℕ) (old now new : Option (List ℕ)) → Appends old now first → WritesPrefix second now new
    → WritesPrefix (first ++ second) old new
WritesPrefix-then first second old now new written prefix =
    WritesPrefix-gathered first [] second second old now new refl (WritesUpTo-whole first old now written) prefix
