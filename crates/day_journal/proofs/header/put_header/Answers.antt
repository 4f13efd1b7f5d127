use Rattle.std.proofs.Common.{◌≡◌, ◌++◌, ◌∙◌, List, ℕ, ap, append_assoc, rules}
use Rattle.sha2.specs.Sha256.{sha256}
use Rattle.day_journal.specs.Headers.{day_text, participants_text, symbols_text, terms_text}
use Rattle.day_journal.proofs.header.put_header.Goals as goal

pub returns-clause-text : goal.returns-clause-text
returns-clause-text c =
    let day : c.put_day.new.text.items ≡ day_text c.args.day.now.session c.args.day.now.matrix c.args.day.now.limit = search rules in
    let symbols : c.put_symbols.new.text.items ≡ c.put_day.new.text.items ++ symbols_text c.args.day.now.listing.symbols = search rules in
    let participants : c.put_participants.new.text.items ≡ c.put_symbols.new.text.items ++ participants_text c.args.day.now.listing.participants = search rules in
    let body : c.put_participants.new.text.items
    ≡ terms_text c.args.day.now =
    participants ∙ ap (λ (t : List ℕ). t ++ participants_text c.args.day.now.listing.participants)
    (symbols ∙ ap (λ (t : List ℕ). t ++ symbols_text c.args.day.now.listing.symbols) day)
    ∙ append_assoc (day_text c.args.day.now.session c.args.day.now.matrix c.args.day.now.limit) (symbols_text c.args.day.now.listing.symbols)
    (participants_text c.args.day.now.listing.participants) in
    let whole : c.extend_from_slice.new.self.items ≡ c.put_participants.new.text.items ++ sha256 c.put_participants.new.text.items = search rules in
    whole ∙ ap (λ (t : List ℕ). t ++ sha256 t) body
