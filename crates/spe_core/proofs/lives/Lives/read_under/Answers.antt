use Rattle.std.proofs.Common.{◌∙◌, ap, sym}
use Rattle.std.specs.Ordering.{nat_cmp}
use Rattle.std.specs.BTreeMap.{is_at}
use Rattle.std.specs.Map.{set_value}
use Rattle.std.proofs.lemmas.Map.Steps.{set_value_same}
use Rattle.std.proofs.lemmas.Result.{on_ok_weaker, on_err_weaker}
use Rattle.spe_core.specs.Changed.{reading_under}
use Rattle.spe_core.specs.Lives.{updated_in}
use Rattle.spe_core.proofs.LivesLemmas.{absent_is, written_is}
use Rattle.spe_core.proofs.lives.Lives.read_under.Goals as goal

pub returns-in_default-clause-ok : goal.returns-in_default-clause-ok
returns-in_default-clause-ok c =
    let f = reading_under c.args.lock in
    ap (λ m. m.entries) c.get_mut.follows.holds-at-none ∙ absent_is c.args.id f c.self.inside.map.entries (sym c.in_default.ensures.value)
    ∙ ap (updated_in c.args.id f) c.self.view_is

pub returns-clause-ok : goal.returns-clause-ok
returns-clause-ok c =
    let f = reading_under c.args.lock in
    let set = c.get_mut.follows.holds c.read_under.new.self in
    on_ok_weaker c.read_under.result
    (λ is. written_is c.args.id f c.self.inside.map.entries _ c.in-Some.t.now c.read_under.new.self c.self.invariant (sym c.in-Some.ensures.value) set.0 is
    ∙ ap (updated_in c.args.id f) c.self.view_is)
    c.read_under.ensures.ok

pub returns-clause-err : goal.returns-clause-err
returns-clause-err c =
    let set = c.get_mut.follows.holds c.read_under.new.self in
    let at = is_at (nat_cmp c.args.id) in
    on_err_weaker c.read_under.result
    (λ same. set.0 ∙ ap (set_value at c.self.inside.map.entries) same ∙ set_value_same at c.self.inside.map.entries c.in-Some.t.now (sym c.in-Some.ensures.value)
    ∙ c.self.view_is)
    c.read_under.ensures.err
