use Rattle.std.proofs.Common.{◌≡◌, ◌++◌, ◌∙◌, ℕ, List, Some, Err, sym, ap, false}
use Rattle.std.specs.Prelude.{is_none}
use Rattle.std.specs.Option.{option_map}
use Rattle.std.proofs.lemmas.List.Sorted.{IsNonDecreasingBy-from_sort}
use Rattle.spe_model.specs.Paging.{Paging}
use Rattle.spe_convert.specs.Reading.{ReadsInto, are_ascending, found_free, usable_of}
use Rattle.spe_convert.proofs.FoundLemmas.{read_err, read_misplaced, read_ok}
use Rattle.spe_convert.proofs.ReadLemmas.{where_map}
use Rattle.spe_convert.proofs.free.read_free.Goals as goal

pub returns-in-Err-clause-read : goal.returns-in-Err-clause-read
returns-in-Err-clause-read g c =
    let found = c.args.found.now in
    let usable = usable_of found in
    let R : Paging → Type 0 = λ pages. ReadsInto {T = Unit {0}} c.new-free.result.items c.read_all.new.free.items (Err c.in-Err.fault) (found_free usable found.pages pages) in
    where_map (g.D.Disk.told c.args.disk.now) found R _
    (λ pages read. read_err usable found.pages pages c.new-free.result.items c.read_all.new.free.items c.in-Err.fault read) c.in-Err.ensures.read

pub returns-in-Some-clause-read : goal.returns-in-Some-clause-read
returns-in-Some-clause-read g c =
    let found = c.args.found.now in
    let usable = usable_of found in
    let start = c.new-free.result.items in
    let all = c.read_all.new.free.items in
    let free = c.sort_unstable.new.self.items in
    let R : Paging → Type 0 = λ pages. option_map (λ (ps : List ℕ). start ++ ps) (found_free usable found.pages pages) ≡ Some all in
    let wrong : are_ascending 1 found.pages free ≡ false = ap (are_ascending 1 found.pages) (sym c.as_slice.ensures.value) ∙ sym c.misplaced.ensures ∙ ap is_none c.in-Some.is in
    where_map (g.D.Disk.told c.args.disk.now) found R _
    (λ pages read. read_misplaced usable found.pages c.in-Some.page pages start all free c.new-free.ensures.items c.sort_unstable.ensures.permutation
    (IsNonDecreasingBy-from_sort (λ x. x) free c.sort_unstable.ensures.sorted) wrong read) c.in-Ok.ensures.read

pub returns-in-None-clause-read : goal.returns-in-None-clause-read
returns-in-None-clause-read g c =
    let found = c.args.found.now in
    let usable = usable_of found in
    let start = c.new-free.result.items in
    let all = c.read_all.new.free.items in
    let R : Paging → Type 0 = λ pages. option_map (λ (ps : List ℕ). start ++ ps) (found_free usable found.pages pages) ≡ Some all in
    where_map (g.D.Disk.told c.args.disk.now) found R _
    (λ pages read. read_ok usable found.pages pages start all c.sort_unstable.new.self c.new-free.ensures.items c.sort_unstable.ensures.permutation read) c.in-Ok.ensures.read
