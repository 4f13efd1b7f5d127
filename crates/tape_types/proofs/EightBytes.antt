-- Eight bytes read as one number.
use Rattle.std.proofs.Common.{◌≡◌, ℕ, ◌<◌, List, length, get_or, sym, ap, ◌∙◌, nat_eq, bytes_eq}
use Rattle.std.specs.Bool.{one_answer}
use Rattle.std.specs.Int.{w64, from_be_bytes, to_be_bytes}
use Rattle.std.proofs.lemmas.Nat.{be_bytes_8}
use Rattle.std.proofs.lemmas.Bool.Decides.{Decides-eqb}
use Rattle.std.proofs.lemmas.Slice.Eq.{bytes_eq-Decides}

-- the numbers are equal exactly if the bytes are
pub number_eq : (xs ys : List ℕ) (m n : ℕ) → length xs ≡ 8 → length ys ≡ 8 → ((i : ℕ) → get_or xs i 0 < 256) → ((i : ℕ) → get_or ys i 0 < 256)
    → m ≡ from_be_bytes w64 xs → n ≡ from_be_bytes w64 ys → nat_eq m n ≡ bytes_eq xs ys
number_eq xs ys m n eight_x eight_y small_x small_y read_x read_y =
    let numbers = Decides-eqb m n in
    let back : m ≡ n → xs ≡ ys = λ same. sym (be_bytes_8 xs m eight_x small_x read_x) ∙ ap (to_be_bytes w64) same ∙ be_bytes_8 ys n eight_y small_y read_y in
    let there : xs ≡ ys → m ≡ n = λ same. read_x ∙ ap (from_be_bytes w64) same ∙ sym read_y in
    one_answer (nat_eq m n) (bytes_eq xs ys) (λ e. back (numbers.0 e), λ e. numbers.1 (there e)) (bytes_eq-Decides xs ys)
