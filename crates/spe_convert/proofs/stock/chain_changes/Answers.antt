use Rattle.std.proofs.Common.{◌≡◌, ◌∙◌, ◌-◌, ◌++◌, ◌∷◌, ℕ, [], All, Option, ap, sym, subst, arith, length, take, drop, map}
use Rattle.std.specs.Prelude.{get_or}
use Rattle.std.proofs.lemmas.List.{length-drop, map-append, take_all}
use Rattle.std.proofs.lemmas.List.Elements.{All-append, All-cons, All-drop, All-nil}
use Rattle.spe_model.specs.Paging.{Paging}
use Rattle.spe_model.specs.Standing.{IsOneOf}
use Rattle.spe_model.specs.Trace.{History}
use Rattle.spe_rewrite.specs.declared.change.Change.{Change}
use Rattle.spe_convert.specs.Changes.{change_of}
use Rattle.spe_convert.specs.Dealt.{chained}
use Rattle.spe_convert.specs.Made.{HaveSize, changed_pages, trunk_of}
use Rattle.spe_convert.specs.Reading.{WhereHeld, usable_of}
use Rattle.spe_convert.specs.Trunk.{Trunk, room}
use Rattle.spe_convert.proofs.ReadLemmas.{where_both}
use Rattle.spe_convert.proofs.StockLemmas.{chain_turn, drop_min, take_min}
use Rattle.spe_convert.proofs.stock.chain_changes.Goals as goal

pub loop-left-preserved : goal.loop-left-preserved
loop-left-preserved g c =
    let found = c.args.found.now in
    let told = g.D.Disk.told c.args.disk.now in
    let usable = usable_of found in
    let left = c.loop-left.left.now in
    let rest = take (length left - 1) (drop 1 left) in
    let long = length-drop 1 left in
    let whole : rest ≡ drop 1 left = take_all (length left - 1) (drop 1 left) (omega (arith, long)) in
    let leaves : c.split_at.result.0.now ≡ take (room usable) (drop 1 left) =
    c.split_at.ensures.front ∙ ap (λ n. take n rest) c.min.ensures ∙ take_min c.most_leaves-most.result rest ∙ ap (λ n. take n rest) c.most_leaves-most.ensures ∙ ap (take (room usable)) whole in
    let more : c.split_at.result.1.now ≡ drop (room usable) (drop 1 left) =
    c.split_at.ensures.back ∙ ap (λ n. drop n rest) c.min.ensures ∙ drop_min c.most_leaves-most.result rest ∙ ap (λ n. drop n rest) c.most_leaves-most.ensures ∙ ap (drop (room usable)) whole in
    let K : Paging → Type 0 = λ pages. c.loop-left.changes.items ++ map (change_of usable pages) (chained (room usable) (length left) left)
    ≡ c.args.changes.now.items ++ map (change_of usable pages) (chained (room usable) (length c.args.free.now) c.args.free.now) in
    let R : Paging → Type 0 = λ pages. c.in-Ok.change ≡ change_of usable pages (trunk_of (get_or left 0 0) c.first_of.result c.split_at.result.0.now) in
    let P : Change → Type 0 = λ d. length d.bytes ≡ found.page_size in
    let made : (pages : Paging) → ℕ → Change = λ pages n. change_of usable pages (trunk_of (get_or left 0 0) n c.split_at.result.0.now) in
    record {
      most = c.most_leaves-most.ensures;
      buf = omega (arith, c.trunk_change.auto.buf, c.loop-left.invariant.buf);
      inside = subst (All (IsOneOf found.pages)) (sym more) (All-drop (IsOneOf found.pages) (room usable) (drop 1 left) (All-drop (IsOneOf found.pages) 1 left c.loop-left.invariant.inside));
      same = c.in-Ok.ensures.same ∙ c.loop-left.invariant.same;
      attached = c.in-Ok.ensures.attached;
      later = omega (arith, c.in-Ok.ensures.cause.later, c.loop-left.invariant.later);
      operations = c.in-Ok.ensures.operations ∙ c.loop-left.invariant.operations;
      sized = λ old. subst (HaveSize found.page_size) (sym c.in_ok-push.ensures.items)
          (All-append P c.loop-left.changes.items (c.in-Ok.change ∷ []) (c.loop-left.invariant.sized old) (All-cons P c.in-Ok.change [] c.in-Ok.ensures.sized (All-nil P)));
      numbers = chain_turn (room usable) (λ (t : Trunk). t.page) left c.split_at.result.0.now c.split_at.result.1.now c.in-Ok.change.page (changed_pages c.args.changes.now.items)
          (changed_pages c.loop-left.changes.items) (changed_pages c.push.new.self.items) (chained (room usable) (length c.args.free.now) c.args.free.now)
          c.in-len1-up.len_at_least leaves more c.in-Ok.ensures.page
          (ap changed_pages c.in_ok-push.ensures.items ∙ map-append (λ (d : Change). d.page) c.loop-left.changes.items (c.in-Ok.change ∷ [])) c.loop-left.invariant.numbers;
      made = where_both told found K R _
          (λ pages kept is. chain_turn (room usable) (change_of usable pages) left c.split_at.result.0.now c.split_at.result.1.now c.in-Ok.change c.args.changes.now.items c.loop-left.changes.items
          c.push.new.self.items (chained (room usable) (length c.args.free.now) c.args.free.now) c.in-len1-up.len_at_least leaves more (is ∙ ap (made pages) c.first_of.ensures) c.in_ok-push.ensures.items kept)
          c.loop-left.invariant.made (subst (λ (t : Option History). WhereHeld t found R) c.loop-left.invariant.same c.in-Ok.ensures.made);
    }
