-- Days that agree in each term are the same.
use Rattle.std.proofs.Common.{◌≡◌, ℕ, List, refl, subst}
use Rattle.sale_matrix.specs.declared.matrix.Matrix.{Matrix}
use Rattle.days.specs.declared.day.Day.{Day}

-- two days that agree in each term
pub same_terms : (one other : Day) → one.session ≡ other.session → one.matrix ≡ other.matrix → one.limit ≡ other.limit
    → one.listing.symbols ≡ other.listing.symbols → one.listing.participants ≡ other.listing.participants → one ≡ other
same_terms one other session matrix limit symbols participants =
    subst (λ (x : ℕ). one ≡ record { session = x; matrix = other.matrix; limit = other.limit; listing = other.listing }) session
    (subst (λ (x : Matrix). one ≡ record { session = one.session; matrix = x; limit = other.limit; listing = other.listing }) matrix
    (subst (λ (x : ℕ). one ≡ record { session = one.session; matrix = one.matrix; limit = x; listing = other.listing }) limit
    (subst (λ (x : List (List ℕ)). one ≡ record {
      session = one.session;
      matrix = one.matrix;
      limit = one.limit;
      listing = record { symbols = x; participants = other.listing.participants };
    }) symbols
    (subst (λ (x : List ℕ). one ≡ record {
      session = one.session;
      matrix = one.matrix;
      limit = one.limit;
      listing = record { symbols = one.listing.symbols; participants = x };
    }) participants refl))))
