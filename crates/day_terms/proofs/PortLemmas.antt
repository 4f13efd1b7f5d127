-- The ports of a text, split at its first comma.
use Rattle.std.proofs.Common.{◌≡◌, ◌+◌, ◌∷◌, [], ℕ, List, Some, None, take, drop}
use Rattle.std.specs.Prelude.{position}
use Rattle.memchr.specs.Find.{is_byte}
use Rattle.tape_types.specs.Header.{pieces_of}
use Rattle.day_terms.specs.Values.{COMMA}
use Rattle.day_terms.specs.Values.{IsPort, ListPorts, ListSomePorts, NamePorts}
use Rattle.day_terms.proofs.WordLemmas.{pieces_of-more, pieces_of-none}

-- the port before the first comma, and those behind it
pub ports-more : (text : List ℕ) (end port : ℕ) (ports : List ℕ) → Some end ≡ position (is_byte COMMA) text
    → IsPort (take end text) port → ListPorts (drop (end + 1) text) ports → ListPorts text (port ∷ ports)
ports-more text end port ports found is listed = rw (pieces_of-more COMMA text end found) (is, listed)

-- conversely, the ports of a text with a comma are the one before it and those behind it
pub ports-split : (text : List ℕ) (end : ℕ) → Some end ≡ position (is_byte COMMA) text → ListSomePorts text
    → ((port : ℕ) × IsPort (take end text) port) × ListSomePorts (drop (end + 1) text)
ports-split text end found (ports, listed) = split ports (rw (pieces_of-more COMMA text end found) at listed)
  where
    split : (ports : List ℕ) → NamePorts (take end text ∷ pieces_of COMMA (drop (end + 1) text)) ports
        → ((port : ℕ) × IsPort (take end text) port) × ListSomePorts (drop (end + 1) text)
    split [] none = absurd none
    split (port ∷ others) (is, listed) = ((port, is), (others, listed))

-- a text without a comma that lists ports is a port
pub ports-one : (text : List ℕ) → None ≡ position (is_byte COMMA) text → ListSomePorts text → (port : ℕ) × IsPort text port
ports-one text none (ports, listed) = one ports (rw (pieces_of-none COMMA text none) at listed)
  where
    one : (ports : List ℕ) → NamePorts (text ∷ []) ports → (port : ℕ) × IsPort text port
    one [] none = absurd none
    one (port ∷ others) (is, listed) = (port, is)

-- a text without a comma is one port
pub ports-last : (text : List ℕ) (port : ℕ) → None ≡ position (is_byte COMMA) text → IsPort text port → ListPorts text (port ∷ [])
ports-last text port none is = rw (pieces_of-none COMMA text none) (is, tt)
