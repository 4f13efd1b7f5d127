use Rattle.std.proofs.Common.{rules}
use Rattle.day_terms.specs.Values.{COMMA}
use Rattle.day_terms.proofs.ListingLemmas.{memory_alone}
use Rattle.day_terms.proofs.names.listing.Goals as goal

pub returns-in-Err-BadListing-OutOfMemory-clause-memory : goal.returns-in-Err-BadListing-OutOfMemory-clause-memory
returns-in-Err-BadListing-OutOfMemory-clause-memory c = λ _. memory_alone COMMA c.args.symbols.now c.args.participants.now (search rules)
