-- Defines where a message that a tape does not refuse goes: its symbol's book, the number of its entry, and its change.
use Rattle.std.specs.Prelude.{◌≡◌, ℕ, ◌+◌, List, length, position, Option, Some}
use Rattle.std.specs.Option.{option_map}
use Rattle.tape_types.specs.Names.{symbol_eq}
use Rattle.sale_matrix.specs.declared.content.Content.{Content}
use Rattle.reports.specs.declared.message.Message.{Message}
use Rattle.reports.specs.declared.message.Message.TheVariants.{Report, Cancel, Correct, Reinstate}
use Rattle.reports.specs.Messages.{header_of}
use Rattle.tape_core.specs.declared.change.Change.{Change}
use Rattle.tape_core.specs.declared.change.Change.TheVariants as make
use Rattle.tape_core.specs.declared.route.Route.{Route}
use Rattle.tape_core.specs.Standing.{NumberedMessage, named_report}
use Rattle.tape_core.specs.Books.{latest_content}
use Rattle.tape_core.specs.Changes.{change_at}
use Rattle.tape_core.specs.Tape.{TapeState, messages_of}

-- the place of the report that a target names, and its latest content
abbrev pub placed_report : List NumberedMessage → ℕ → ℕ → Option (ℕ × Content)
placed_report tape who target = option_map (λ r. (r.0, latest_content tape r.0)) (named_report tape who target)

-- what a message changes after these, if the register has the report that it names at this index
abbrev pub message_change : List NumberedMessage → Message → ℕ → Option Change
message_change tape (Report header content) index = Some (make.Enter content)
message_change tape (Cancel header target) index =
    option_map (change_at (λ named latest. make.Cancel named) target index) (placed_report tape header.participant target)
message_change tape (Correct header target content) index =
    option_map (change_at (λ named latest. make.Correct named content) target index) (placed_report tape header.participant target)
message_change tape (Reinstate header target) index =
    option_map (change_at (λ named latest. make.Reinstate named latest) target index) (placed_report tape header.participant target)

-- the book of the message's symbol, the number of its entry, and what it changes
pub record IsRoute (t : TapeState) (m : Message) (route : Route) : Type 0 where
  pub book : position (symbol_eq (header_of m).symbol) t.listing.symbols ≡ Some route.book
  pub number : route.number ≡ length t.entries + 1
  pub change : (index : ℕ) × (message_change (messages_of t.entries) m index ≡ Some route.change)
