use Rattle.std.proofs.Common.{◌≡◌, ◌≤◌, ◌∙◌, Some, ap, arith, length, subst, sym}
use Rattle.std.proofs.lemmas.Bool.{leb-true}
use Rattle.tape_frames.specs.Headers.{last_entry_of}
use Rattle.arbitration.specs.Windows.{IsWindow}
use Rattle.subscriber.specs.Subscribers.{SubscriberState}
use Rattle.subscriber.proofs.Held.{brings, stays}
use Rattle.subscriber.proofs.subscriber.Subscriber.holds_all_of.Goals as goal

pub returns-in-Some-clause-idle : goal.returns-in-Some-clause-idle
returns-in-Some-clause-idle c low line taken after is =
    let last = c.in-Some.last in
    let base = subst (λ (s : SubscriberState). s.window.base ≡ length s.tape.entries) c.self.view_is c.self.invariant.0 in
    let window = subst (λ (s : SubscriberState). IsWindow s.window) c.self.view_is c.base.ensures.window in
    let inside : last ≤ length c.self.inside.tape.entries = omega (arith, leb-true _ _ low, c.from.ensures, c.base.ensures.base, c.self.invariant.0) in
    let within = subst (λ (s : SubscriberState). last ≤ length s.tape.entries) c.self.view_is inside in
    let told : Some last ≡ last_entry_of c.self.inside.window.session is.packet =
    sym c.in-Some.is ∙ c.last_entry.ensures.last is.packet is.spelled ∙ ap (λ n. last_entry_of n is.packet) c.session.ensures.session in
    let told_of_now = subst (λ (s : SubscriberState). Some last ≡ last_entry_of s.window.session is.packet) c.self.view_is told in
    stays c.args.self.now base window c.args.bytes.now line taken after is (brings c.args.self.now is.packet last told_of_now within)
