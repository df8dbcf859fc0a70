-- The pages of a file that holds recovered pages.
use Rattle.std.specs.Prelude.{◌≡◌, ℕ, List}
use Rattle.spe_model.specs.declared.recovery.Recovered.{Recovered}
use Rattle.spe_model.specs.Content.{Content}
use Rattle.spe_model.specs.Settled.{IsFound}
use Rattle.spe_room.specs.Held.{held_pages}

abbrev pub GivesFound : Type 0
GivesFound =
    (found : Recovered) (content : Content) (pages : List (List ℕ)) → IsFound found content pages
    → held_pages found.page_size found.pages content ≡ pages
