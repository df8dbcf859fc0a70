use Rattle.std.proofs.Common.{◌≡◌, refl, arith, true}
use Rattle.spe_model.specs.Header.{is_page_size}
use Rattle.spe_cases_store.proofs.tests.begin.opened.Goals as goal

power : is_page_size 512 ≡ true
unfolding is_page_size
power = refl

pub new-requires-clause-limits : goal.new-requires-clause-limits
new-requires-clause-limits c = record { power = power; low = omega arith; high = omega arith; usable = omega arith; some = omega arith; few = omega arith }
