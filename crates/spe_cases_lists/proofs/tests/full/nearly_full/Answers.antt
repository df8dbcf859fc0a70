use Rattle.std.proofs.Common.{◌≡◌, refl, arith, true}
use Rattle.spe_model.specs.Header.{is_page_size}
use Rattle.spe_cases_lists.proofs.tests.full.nearly_full.Goals as goal

power : is_page_size 65536 ≡ true
unfolding is_page_size
power = refl

pub returns : goal.returns
returns c = record { power = power; low = omega arith; high = omega arith; usable = omega arith; some = omega arith; few = omega arith }
