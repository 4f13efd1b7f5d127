use Rattle.line_ledger.specs.Cells.{shown}
use Rattle.live_feed.proofs.Sendings.{sent_ends}
use Rattle.live_feed.proofs.sender.send_from.Goals as goal

-- the packet ends within what is published
pub returns-clause-last : goal.returns-clause-last
returns-clause-last g c =
    sent_ends (shown c.args.published.now.tokens) c.args.feed.now.session c.args.from c.last.result c.cut-packet.result c.cut-packet.ensures.packet
    c.last.ensures.numbers c.last.ensures.value c.requires.source.numbered c.requires.first
