-- Which arguments, in which order, name a day for `live` and for `follow`. What they cannot say is at its default.
use Rattle.std.specs.Prelude.{◌≡◌, ◌∷◌, [], ℕ, List, None, Ok}
use Rattle.tape_types.specs.Header.{names_listing}
use Rattle.day_terms.specs.Values.{COMMA}
use Rattle.day_terms.specs.Values.{ArePorts, IsLimitOrLeftOut, IsMatrixOrOne, IsNumber, IsPort, ListPorts}
use Rattle.day_terms.specs.Arguments.{IsFirst}
use Rattle.day_terms.specs.declared.follow_day.FollowDay.{FollowDay}
use Rattle.day_terms.specs.declared.live_day.LiveDay.{LiveDay}
use Rattle.day_terms.specs.declared.terms.LiveTerms.{LiveTerms}

-- a day of `live`, with its ports as lists
pub record LiveView : Type 0 where
  pub terms : LiveTerms
  pub first_port : ℕ
  pub a : List ℕ
  pub b : List ℕ
  pub retransmission : ℕ

-- the day that was read
abbrev pub live_view : LiveDay → LiveView
live_view day = record {
  terms = day.terms;
  first_port = day.first_port;
  a = day.a.items;
  b = day.b.items;
  retransmission = day.retransmission;
}

-- the arguments after `live` name this day
pub record NameLive (words : List (List ℕ)) (day : LiveView) : Type 0 where
  pub symbols : List ℕ
  pub participants : List ℕ
  pub behind_names : List (List ℕ)
  pub behind_first_port : List (List ℕ)
  pub behind_a : List (List ℕ)
  pub behind_b : List (List ℕ)
  pub behind_ports : List (List ℕ)
  pub behind_serves : List (List ℕ)
  pub behind_session : List (List ℕ)
  pub behind_matrix : List (List ℕ)
  pub names : words ≡ symbols ∷ participants ∷ behind_names
  pub listing : names_listing COMMA symbols participants ≡ Ok day.terms.day.listing
  pub first_port : IsFirst IsPort behind_names behind_first_port day.first_port
  pub a : IsFirst ListPorts behind_first_port behind_a day.a
  pub b : IsFirst ListPorts behind_a behind_b day.b
  pub retransmission : IsFirst IsPort behind_b behind_ports day.retransmission
  pub serves : IsFirst IsNumber behind_ports behind_serves day.terms.serves
  pub session : IsFirst IsNumber behind_serves behind_session day.terms.day.session
  pub matrix : IsMatrixOrOne behind_session behind_matrix day.terms.day.matrix
  pub limit : IsLimitOrLeftOut behind_matrix [] day.terms.day.limit
  pub connect_within : day.terms.connect_within ≡ None
  pub followers_wait : day.terms.followers_wait ≡ None

-- the arguments after `follow` name this day
pub record NameFollow (words : List (List ℕ)) (day : FollowDay) : Type 0 where
  pub symbols : List ℕ
  pub participants : List ℕ
  pub behind_names : List (List ℕ)
  pub behind_ports : List (List ℕ)
  pub behind_session : List (List ℕ)
  pub behind_matrix : List (List ℕ)
  pub names : words ≡ symbols ∷ participants ∷ behind_names
  pub listing : names_listing COMMA symbols participants ≡ Ok day.terms.day.listing
  pub ports : ArePorts behind_names behind_ports day.ports day.retransmission
  pub session : IsFirst IsNumber behind_ports behind_session day.terms.day.session
  pub matrix : IsMatrixOrOne behind_session behind_matrix day.terms.day.matrix
  pub limit : IsLimitOrLeftOut behind_matrix [] day.terms.day.limit
  pub connect_within : day.terms.connect_within ≡ None
