-- What the first argument excludes, and what arguments that are read as a fault ask for.
use Rattle.std.proofs.Common.{◌≡◌, ◌-◌, ◌∷◌, ◌&&◌, Some, [], ℕ, List, true, arith, drop, length, nat_eq, take}
use Rattle.std.proofs.lemmas.Bool.{and_parts}
use Rattle.std.proofs.lemmas.Bool.Decides.{nat_tests}
use Rattle.std.proofs.lemmas.Grind.{common_steps}
use Rattle.std.specs.Option.{is_none}
use Rattle.std.specs.Str.{bytes_eq}
use Rattle.command_line.specs.declared.command.Asked.{Asked}
use Rattle.tapebox.specs.Program.{asked_in, asks_follow, asks_live, begin_with, follow_word, live_word}

-- a slice up to the last byte is all that stands behind its start
pub to_the_last : (start : ℕ) (bytes : List ℕ) → take (length bytes - start) (drop start bytes) ≡ drop start bytes
to_the_last start bytes = grind (arith, common_steps)

-- no arguments begin with both
begin_with_both : (words : List ℕ) → begin_with live_word words ≡ true → begin_with follow_word words ≡ true → ⊥
begin_with_both [] live follow = absurd (cc live)
begin_with_both (byte ∷ words) live follow =
    let l : nat_eq 108 byte ≡ true = (and_parts (nat_eq 108 byte) (bytes_eq (drop 1 live_word) (take 4 words)) live).0 in
    let f : nat_eq 102 byte ≡ true = (and_parts (nat_eq 102 byte) (bytes_eq (drop 1 follow_word) (take 6 words)) follow).0 in
    absurd (grind (arith, nat_tests, l, f))

-- no arguments ask for both
pub never_both : (words : List ℕ) → asks_live words ≡ true → asks_follow words ≡ true → ⊥
never_both words live follow =
    begin_with_both words (and_parts (is_none (asked_in words)) (begin_with live_word words) live).1
    (and_parts (is_none (asked_in words)) (begin_with follow_word words) follow).1

-- arguments in a row ask for nothing else
pub in_row : (words word : List ℕ) → is_none (asked_in words) && begin_with word words ≡ true → (asked : Asked) → asked_in words ≡ Some asked → ⊥
in_row words word row asked some =
    let none : is_none (asked_in words) ≡ true = (and_parts (is_none (asked_in words)) (begin_with word words) row).0 in
    let here = rw some at none in
    absurd (cc here)
