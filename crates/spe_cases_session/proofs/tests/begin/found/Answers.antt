use Rattle.std.proofs.Common.{◌≡◌, refl, arith, true}
use Rattle.spe_model.specs.Header.{is_page_size}
use Rattle.spe_cases_session.proofs.tests.begin.found.Goals as goal

power : is_page_size 512 ≡ true
unfolding is_page_size
power = refl

pub returns-clause-limits : goal.returns-clause-limits
returns-clause-limits c = record { power = power; low = omega arith; high = omega arith; usable = omega arith; some = omega arith; few = omega arith }
