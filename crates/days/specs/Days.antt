-- Two days compared.
use Rattle.std.specs.Prelude.{◌≡◌, ◌≢◌, Option, Some, None}
use Rattle.days.specs.declared.day.Day.{Day}
use Rattle.days.specs.declared.other_term.OtherTerm.{OtherTerm}
use Rattle.days.specs.declared.other_term.OtherTerm.TheVariants.{Session, Matrix, Limit, Symbols, Participants}

-- two days differ in this term and in none before it, or do not differ if there is none
abbrev pub Differs : Option OtherTerm → Day → Day → Type 0
Differs None one other = one ≡ other
Differs (Some Session) one other = one.session ≢ other.session
Differs (Some Matrix) one other = (one.session ≡ other.session) × (one.matrix ≢ other.matrix)
Differs (Some Limit) one other = (one.session ≡ other.session) × (one.matrix ≡ other.matrix) × (one.limit ≢ other.limit)
Differs (Some Symbols) one other =
    (one.session ≡ other.session) × (one.matrix ≡ other.matrix) × (one.limit ≡ other.limit) × (one.listing.symbols ≢ other.listing.symbols)
Differs (Some Participants) one other =
    (one.session ≡ other.session) × (one.matrix ≡ other.matrix) × (one.limit ≡ other.limit) × (one.listing.symbols ≡ other.listing.symbols)
    × (one.listing.participants ≢ other.listing.participants)
