use Rattle.std.proofs.Common.{◌≡◌, ◌∙◌, ap, sym, subst, rules, [], ◌∷◌, Some, None, List, ℕ}
use Rattle.std.specs.List.Sorted.{IsStrictlySortedBy}
use Rattle.std.specs.Map.{keys_of}
use Rattle.std.specs.Ordering.{nat_cmp}
use Rattle.spe_stored.specs.Sheets.{Sheets, sheet_at}
use Rattle.spe_stored.proofs.SheetsLemmas.{lookup_is}
use Rattle.spe_stored.proofs.UndoLemmas.{among_none, first_is, first_of, rest_sorted, skipped}
use Rattle.spe_stored.proofs.sheets.Sheets.first_among.Goals as goal

pub returns-in-Some-get : goal.returns-in-Some-get
returns-in-Some-get c =
    let sheets : Sheets = c.args.self.now in
    let rest : Sheets = c.next.new.self in
    let other : ℕ × List ℕ = (c.in-Some.page.now, c.in-Some.field-0-1.now) in
    let step : c.loop-page.page-iterator ≡ other ∷ rest = search rules in
    let found : sheet_at other.0 sheets ≡ Some c.as_slice.result.now =
    sym (ap Some c.as_slice.ensures ∙ c.in-Some-get.ensures.value ∙ lookup_is other.0 c.self.inside.map.entries ∙ ap (sheet_at other.0) c.self.view_is) in
    let sorted : IsStrictlySortedBy nat_cmp (keys_of sheets) = subst (λ (l : Sheets). IsStrictlySortedBy nat_cmp (keys_of l)) c.self.view_is c.self.invariant in
    let order : IsStrictlySortedBy nat_cmp (keys_of (other ∷ rest)) = subst (λ (l : Sheets). IsStrictlySortedBy nat_cmp (keys_of l)) step c.loop-page.invariant.order in
    sym (first_is sheets other rest c.as_slice.result.now sorted order found) ∙ ap (first_of sheets) (sym step) ∙ c.loop-page.invariant.same

pub loop-page-preserved : goal.loop-page-preserved
loop-page-preserved c =
    let sheets : Sheets = c.args.self.now in
    let rest : Sheets = c.next.new.self in
    let other : ℕ × List ℕ = (c.in-Some.page.now, c.in-Some.field-0-1.now) in
    let step : c.loop-page.page-iterator ≡ other ∷ rest = search rules in
    let none : sheet_at other.0 sheets ≡ None =
    sym (c.in_default.ensures.value ∙ lookup_is other.0 c.self.inside.map.entries ∙ ap (sheet_at other.0) c.self.view_is) in
    let order : IsStrictlySortedBy nat_cmp (keys_of (other ∷ rest)) = subst (λ (l : Sheets). IsStrictlySortedBy nat_cmp (keys_of l)) step c.loop-page.invariant.order in
    record {
      same = sym (skipped sheets other rest none) ∙ ap (first_of sheets) (sym step) ∙ c.loop-page.invariant.same;
      order = rest_sorted other rest order;
    }

pub returns : goal.returns
returns c =
    let sheets : Sheets = c.args.self.now in
    let over : c.loop-page.page-iterator ≡ [] = search rules in
    sym (among_none sheets) ∙ ap (first_of sheets) (sym over) ∙ c.loop-page.invariant.same
