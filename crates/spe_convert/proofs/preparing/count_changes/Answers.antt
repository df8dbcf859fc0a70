use Rattle.std.proofs.Common.{◌≡◌, ◌∙◌, List, ℕ, [], ◌∷◌, ap, take}
use Rattle.std.specs.Prelude.{if◌then◌else◌}
use Rattle.spe_model.specs.Header.{fields, is_size_valid}
use Rattle.spe_model.specs.Paging.{Paging}
use Rattle.spe_convert.specs.Changes.{counted_page}
use Rattle.spe_convert.specs.Made.{change_with}
use Rattle.spe_convert.proofs.ReadLemmas.{where_map}
use Rattle.spe_convert.proofs.preparing.count_changes.Goals as goal

pub returns-clause-made : goal.returns-clause-made
returns-clause-made g c =
    let found = c.args.found.now in
    let Q : Paging → Type 0 = λ pages. c.read_page.new.buf ≡ pages 1 in
    where_map (g.D.Disk.told c.args.disk.now) found Q _
    (λ pages read. c.in_ok-changes.ensures.made ∙ ap (λ (b : List ℕ). if is_size_valid (fields (take 100 b)) then [] else change_with 1 (counted_page found.pages b) ∷ []) read)
    c.in_ok-read_page.ensures.held
