-- The pages that were given are those that are told.
use Rattle.std.specs.Prelude.{◌≡◌, ◌≤◌, ℕ, true, Option, Some, None, IfSome, is_some, refl}
use Rattle.std.proofs.Common.{arith}
use Rattle.std.proofs.lemmas.List.Elements.{All-weaker}
use Rattle.spe_model.specs.Paging.{Paging, Given, Agrees}
use Rattle.spe_model.specs.Trace.{History, present}
use Rattle.spe_model.specs.Settled.{page_in}
use Rattle.spe_room.specs.Held.{AreOf, IsHeld, held_pages, told_pages}

pub given_agrees : (told : Option History) (size count : ℕ) (given : Given) → AreOf told size count given
    → IfSome (told_pages told size count) (λ pages. Agrees pages given)
given_agrees None size count given held = tt
given_agrees (Some h) size count given held =
    record { each = λ n. All-weaker (IsHeld (Some h) size count n) (λ bytes. page_in (held_pages size count (present h)) n ≡ bytes) (λ bytes is. is h refl) (given n) (held n) }

-- where the file is told, some list of pages agrees with what was given
pub agreed_of : (told : Option History) (size count : ℕ) (given : Given) → is_some told ≡ true → AreOf told size count given → (pages : Paging) × Agrees pages given
agreed_of None size count given tells held = absurd cc
agreed_of (Some h) size count given tells held = (page_in (held_pages size count (present h)), given_agrees (Some h) size count given held)

pub at_most_itself : (n : ℕ) → n ≤ n
at_most_itself n = omega arith
