-- Arguments that pass every check name a day.
use Rattle.std.proofs.Common.{◌≡◌, ◌∷◌, [], ℕ, List, Result, Ok, Err, None, refl}
use Rattle.std.specs.Result.{result_err}
use Rattle.sale_matrix.specs.declared.matrix.Matrix.{Matrix}
use Rattle.tape_types.specs.Names.{Names}
use Rattle.tape_types.specs.Header.{names_listing}
use Rattle.day_terms.specs.NamedDays.{LiveView, NameLive}
use Rattle.day_terms.specs.Values.{COMMA}
use Rattle.day_terms.specs.Values.{IsLimitOrLeftOut, IsMatrixOrOne, IsNumber, IsPort, ListSomePorts}
use Rattle.day_terms.specs.Arguments.{IsFirst}

-- a result that is no error has a value
pub found : {A E : Type 0} (result : Result A E) → result_err result ≡ None → (value : A) × (result ≡ Ok value)
found (Ok value) none = (value, refl)
found (Err error) none = absurd (cc none)

-- arguments of which each was checked name a day
pub day_named : (words behind_names behind_first_port behind_a behind_b behind_ports behind_serves behind_session behind_matrix : List (List ℕ))
    (symbols participants a b : List ℕ) (first_port retransmission serves session : ℕ) (matrix : Matrix) (limit : ℕ)
    → words ≡ symbols ∷ participants ∷ behind_names
    → IsFirst IsPort behind_names behind_first_port first_port
    → (behind_first_port ≡ a ∷ behind_a) × ListSomePorts a
    → (behind_a ≡ b ∷ behind_b) × ListSomePorts b
    → IsFirst IsPort behind_b behind_ports retransmission
    → IsFirst IsNumber behind_ports behind_serves serves
    → IsFirst IsNumber behind_serves behind_session session
    → IsMatrixOrOne behind_session behind_matrix matrix
    → IsLimitOrLeftOut behind_matrix [] limit
    → (names : Names) × (names_listing COMMA symbols participants ≡ Ok names)
    → (day : LiveView) × NameLive words day
day_named words behind_names behind_first_port behind_a behind_b behind_ports behind_serves behind_session behind_matrix symbols participants a b first_port
    retransmission serves session matrix limit names first of_a of_b third served of_session by_matrix limited listed = (
      record {
        terms = record {
          day = record { listing = listed.0; matrix = matrix; limit = limit; session = session };
          serves = serves;
          connect_within = None;
          followers_wait = None;
        };
        first_port = first_port;
        a = of_a.1.0;
        b = of_b.1.0;
        retransmission = retransmission;
      },
      record {
        symbols = symbols;
        participants = participants;
        behind_names = behind_names;
        behind_first_port = behind_first_port;
        behind_a = behind_a;
        behind_b = behind_b;
        behind_ports = behind_ports;
        behind_serves = behind_serves;
        behind_session = behind_session;
        behind_matrix = behind_matrix;
        names = names;
        listing = listed.1;
        first_port = first;
        a = record { word = a; order = of_a.0; is = of_a.1.1 };
        b = record { word = b; order = of_b.0; is = of_b.1.1 };
        retransmission = third;
        serves = served;
        session = of_session;
        matrix = by_matrix;
        limit = limited;
        connect_within = refl;
        followers_wait = refl;
      },
    )
