use Rattle.std.proofs.Common.{◌≡◌, ◌∙◌, ◌-◌, ◌++◌, ◌∷◌, [], List, Option, ap, sym, subst, arith, length, take, drop, map}
use Rattle.std.proofs.lemmas.List.{map-append}
use Rattle.std.proofs.lemmas.List.Elements.{All-append, All-cons, All-nil}
use Rattle.spe_model.specs.Paging.{Paging}
use Rattle.spe_model.specs.Trace.{History}
use Rattle.spe_rewrite.specs.declared.change.Change.{Change}
use Rattle.spe_convert.specs.Changes.{before, change_of}
use Rattle.spe_convert.specs.Made.{HaveSize, changed_pages}
use Rattle.spe_convert.specs.Reading.{WhereHeld, usable_of}
use Rattle.spe_convert.specs.Trunk.{Trunk, room}
use Rattle.spe_convert.proofs.MadeLemmas.{right_rest, taken_off, trunk_turn}
use Rattle.spe_convert.proofs.ReadLemmas.{where_both}
use Rattle.spe_convert.proofs.server.trunk_changes.Goals as goal

pub loop-left-preserved : goal.loop-left-preserved
loop-left-preserved g c =
    let found = c.args.found.now in
    let told = g.D.Disk.told c.args.disk.now in
    let usable = usable_of found in
    let left = c.loop-left.left.now in
    let rest : List Trunk = take (length left - 1) (drop 1 left) in
    let t = c.trunk-item.result in
    let off : left ≡ t ∷ rest = taken_off left t c.in-len1-up.len_at_least c.trunk-item.is in
    let old : Paging → Paging = before found.page_size found.pages in
    let K : Paging → Type 0 = λ pages. c.loop-left.changes.items ++ map (change_of usable (old pages)) left ≡ c.args.changes.now.items ++ map (change_of usable (old pages)) c.args.trunks.now in
    let R : Paging → Type 0 = λ pages. c.in-Ok.change ≡ change_of usable (old pages) t in
    let P : Change → Type 0 = λ d. length d.bytes ≡ found.page_size in
    record {
      buf = omega (arith, c.server_trunk.auto.buf, c.loop-left.invariant.buf);
      right = right_rest (room usable) left rest t off c.loop-left.invariant.right;
      same = c.in-Ok.ensures.same ∙ c.loop-left.invariant.same;
      attached = c.in-Ok.ensures.attached;
      later = omega (arith, c.in-Ok.ensures.cause.later, c.loop-left.invariant.later);
      operations = c.in-Ok.ensures.operations ∙ c.loop-left.invariant.operations;
      sized = λ before. subst (HaveSize found.page_size) (sym c.in_ok-push.ensures.items)
          (All-append P c.loop-left.changes.items (c.in-Ok.change ∷ []) (c.loop-left.invariant.sized before) (All-cons P c.in-Ok.change [] c.in-Ok.ensures.sized (All-nil P)));
      numbers = trunk_turn (λ (x : Trunk). x.page) left rest t c.in-Ok.change.page (changed_pages c.loop-left.changes.items) (changed_pages c.push.new.self.items) _ off c.in-Ok.ensures.page
          (ap changed_pages c.in_ok-push.ensures.items ∙ map-append (λ (d : Change). d.page) c.loop-left.changes.items (c.in-Ok.change ∷ [])) c.loop-left.invariant.numbers;
      made = where_both told found K R _
          (λ pages kept is. trunk_turn (change_of usable (old pages)) left rest t c.in-Ok.change c.loop-left.changes.items c.push.new.self.items _ off is c.in_ok-push.ensures.items kept)
          c.loop-left.invariant.made (subst (λ (h : Option History). WhereHeld h found R) c.loop-left.invariant.same c.in-Ok.ensures.made);
    }
