-- Saved pages are written back.
use Rattle.std.proofs.Common.{◌≡◌, ◌≢◌, ℕ, ◌+◌, ◌-◌, ◌*◌, ◌<◌, ◌≤◌, List, [], ◌∷◌, ◌++◌, length, map, take, drop, All, refl, arith, sym, ap, subst, ◌∙◌, Bool, true, false, Option, Some, ⊎_elim, inl, length-drop}
use Rattle.std.specs.Prelude.{◌==◌, is_some, if◌then◌else◌}
use Rattle.std.specs.List.{find, list_any}
use Rattle.std.proofs.Math.Seq.{take-add}
use Rattle.std.proofs.lemmas.Bool.{cases_Bool, cases_eq, eqb-true, ne_eqb}
use Rattle.std.proofs.lemmas.List.Elements.{All-head, All-tail}
use Rattle.spe_model.specs.declared.file.FileNo.TheVariants.{Database}
use Rattle.spe_model.specs.Content.{Content, bytes_of, with_file}
use Rattle.spe_model.specs.Covered.{IsCovered, IsSafe, Recovers, first_place}
use Rattle.spe_model.specs.Journal.{Saved}
use Rattle.spe_model.specs.Recovery.{all_hot, file_page, file_page_size, image_of, is_of, journal_of, saved_or, with_front}
use Rattle.spe_model.specs.Rollback.{write_of}
use Rattle.spe_model.specs.Trace.{Operation, after, laid_over, made_by}
use Rattle.spe_model.specs.Trace.Operation.{Write}
use Rattle.spe_crash.proofs.DatabaseLemmas.{IsKept, KeepsDatabase, database_keeps}
use Rattle.spe_crash.proofs.FileLemmas.{IsLaid, laid, laid_there, file_replaced}
use Rattle.spe_crash.proofs.FrontLemmas.{IsReadable, readable, size_same}
use Rattle.spe_crash.proofs.KeepLemmas.{Keeps, Keeps-trans, all_same, keeps}
use Rattle.spe_crash.proofs.PagesLemmas.{opened, some_pages}
use Rattle.spe_crash.proofs.PlaceLemmas.{page_end}
use Rattle.spe_crash.proofs.RecordLemmas.{IsWholeRecord}
use Rattle.spe_crash.proofs.RollLemmas.{IsNoSave, Rolls}
use Rattle.spe_crash.proofs.WriteLemmas.{page_kept, write_keeps_database}

-- the first record of a page up to the count
pub record IsRestorable (base : Content) (pages : ℕ) (s : Saved) : Type 0 where
  pub first : find (is_of s.page) (all_hot base) ≡ Some s
  pub counted : s.page ≤ pages
  pub whole : IsWholeRecord (file_page_size base) s

-- a content with the same recovered pages and the same journals
pub record HasPagesOf (base now : Content) (pages : ℕ) : Type 0 where
  pub keeps : Keeps base now pages
  pub journals : (id : ℕ) → journal_of now id ≡ journal_of base id

-- a page is in the file what it is once it is recovered
pub record IsBack (base : Content) (file : List ℕ) (p : ℕ) : Type 0 where
  pub whole : p * file_page_size base ≤ length file
  pub same : take (file_page_size base) (drop ((p - 1) * file_page_size base) file) ≡ image_of base p

-- what is written of a page
abbrev pub part_of : Saved → List ℕ
part_of s = if s.page == 1 then drop 24 s.content else s.content

write_is : (page_size : ℕ) (s : Saved) → write_of page_size s ≡ Write Database (first_place page_size s.page) (part_of s)
write_is page_size s = by_page (s.page == 1)
  where
    by_page : (b : Bool) → (if b then Write Database 24 (drop 24 s.content) else Write Database ((s.page - 1) * page_size) s.content)
        ≡ Write Database (if b then 24 else (s.page - 1) * page_size) (if b then drop 24 s.content else s.content)
    by_page true = refl
    by_page false = refl

part_other : (s : Saved) → s.page ≢ 1 → part_of s ≡ s.content
part_other s other = rw (ne_eqb s.page 1 other) refl

place_other : (page_size p : ℕ) → p ≢ 1 → first_place page_size p ≡ (p - 1) * page_size
place_other page_size p other = rw (ne_eqb p 1 other) refl

part_first : (s : Saved) → s.page ≡ 1 → part_of s ≡ drop 24 s.content
part_first s first = rw first refl

-- what is written of a page ends where the page does
part_end : (page_size : ℕ) (s : Saved) → 512 ≤ page_size → IsWholeRecord page_size s → first_place page_size s.page + length (part_of s) ≡ s.page * page_size
part_end page_size s low whole = ⊎_elim
    (λ (first : s.page ≡ 1). rw first (omega (arith, length-drop 24 s.content, whole.sized)))
    (λ (other : s.page ≢ 1).
    let place : first_place page_size s.page ≡ (s.page - 1) * page_size = place_other page_size s.page other in
    let size : length (part_of s) ≡ page_size = ap length (part_other s other) ∙ whole.sized in
    let end : (s.page - 1) * page_size + page_size ≡ s.page * page_size = page_end s.page page_size whole.named in
    omega arith)
    (cases_eq s.page 1)

part_some : (page_size : ℕ) (s : Saved) → 512 ≤ page_size → IsWholeRecord page_size s → 0 < length (part_of s)
part_some page_size s low whole = ⊎_elim
    (λ (first : s.page ≡ 1). rw (part_first s first) (omega (arith, length-drop 24 s.content, whole.sized)))
    (λ (other : s.page ≢ 1). rw (part_other s other) (omega (arith, whole.sized)))
    (cases_eq s.page 1)

made_some : (content : Content) (at : ℕ) (bytes : List ℕ) → 0 < length bytes → made_by (Write Database at bytes) content ≡ with_file content Database (laid_over (bytes_of content Database) at bytes)
made_some content at [] some = absurd (omega arith)
made_some content at (b ∷ bs) some = refl

-- one page is written back
pub record IsStep (base now next : Content) (pages : ℕ) (s : Saved) : Type 0 where
  pub safe : IsSafe now (first_place (file_page_size base) s.page) (length (part_of s))
  pub after : HasPagesOf base next pages
  pub laid : IsLaid (bytes_of now Database) (bytes_of next Database) (first_place (file_page_size base) s.page) (length (part_of s))
  pub there : take (length (part_of s)) (drop (first_place (file_page_size base) s.page) (bytes_of next Database)) ≡ part_of s

held_of : (found : Option Saved) (s : Saved) → found ≡ Some s → is_some found ≡ true
held_of found s is = rw is refl

step : (base now next : Content) (pages : List (List ℕ)) (s : Saved) → Recovers base pages → HasPagesOf base now (length pages) → IsRestorable base (length pages) s
    → next ≡ made_by (Write Database (first_place (file_page_size base) s.page) (part_of s)) now → IsStep base now next (length pages) s
step base now next pages s recovers h r is =
    let page_size = file_page_size base in
    let place = first_place page_size s.page in
    let part = part_of s in
    let file : IsReadable (bytes_of base Database) = readable base (opened base pages recovers).front in
    let size : file_page_size now ≡ page_size = size_same (bytes_of base Database) (bytes_of now Database) h.keeps.front in
    let again : Recovers now pages = keeps base now pages h.keeps recovers in
    let end : place + length part ≡ s.page * page_size = part_end page_size s file.low r.whole in
    let found : find (is_of s.page) (all_hot now) ≡ Some s =
    ap (λ (saved : List Saved). find (is_of s.page) saved) (all_same base now (record { size = size; journals = h.journals })) ∙ r.first in
    let safe : IsSafe now place (length part) = record {
      pages = pages;
      recovers = again;
      page = s.page;
      within = record { numbered = r.whole.named; from = rw size (omega arith); to = rw size (omega arith) };
      safe = inl (held_of (find (is_of s.page) (all_hot now)) s found, r.counted);
    } in
    let made : next ≡ with_file now Database (laid_over (bytes_of now Database) place part) = is ∙ made_some now place part (part_some page_size s file.low r.whole) in
    let k : KeepsDatabase now next (length pages) = write_keeps_database now place part safe next made in
    let new : bytes_of next Database ≡ laid_over (bytes_of now Database) place part =
    ap (λ (c : Content). bytes_of c Database) made ∙ file_replaced now Database (laid_over (bytes_of now Database) place part) (omega (arith, h.keeps.front.long_new)) in
    record {
      safe = safe;
      after = record {
        keeps = Keeps-trans base now next (length pages) (some_pages base pages (opened base pages recovers)) h.keeps (database_keeps now next pages k (opened now pages again));
        journals = λ id. k.journals id ∙ h.journals id;
      };
      laid = rw new (laid (bytes_of now Database) place part);
      there = rw new (laid_there (bytes_of now Database) place part);
    }

image_saved : (base : Content) (s : Saved) → find (is_of s.page) (all_hot base) ≡ Some s → image_of base s.page ≡ with_front base s.page s.content
unfolding image_of
image_saved base s first = ap (λ (found : Option Saved). with_front base s.page (saved_or (file_page base s.page) found)) first

image_other : (base : Content) (p : ℕ) (page : List ℕ) → p ≢ 1 → with_front base p page ≡ page
image_other base p page other = rw (ne_eqb p 1 other) refl

-- the page that was written is back
step_back : (base now next : Content) (pages : ℕ) (s : Saved) → 512 ≤ file_page_size base → IsRestorable base pages s → IsStep base now next pages s → IsBack base (bytes_of next Database) s.page
step_back base now next pages s low r t = record {
  whole = omega (arith, t.laid.long, end);
  same = ⊎_elim
      (λ (first : s.page ≡ 1).
      let start : (s.page - 1) * page_size ≡ 0 = rw first (omega arith) in
      let split : page_size ≡ 24 + (page_size - 24) = omega arith in
      let place : first_place page_size s.page ≡ 24 = rw first refl in
      let part : part_of s ≡ drop 24 s.content = part_first s first in
      let size : length (part_of s) ≡ page_size - 24 = ap length part ∙ omega (arith, length-drop 24 s.content, r.whole.sized) in
      ap (λ (n : ℕ). take page_size (drop n file)) start
      ∙ ap (λ (n : ℕ). take n file) split
      ∙ take-add 24 (page_size - 24) file
      ∙ ap (λ (front : List ℕ). front ++ take (page_size - 24) (drop 24 file)) t.after.keeps.front.front
      ∙ ap (λ (n : ℕ). take 24 (bytes_of base Database) ++ take n (drop 24 file)) (sym size)
      ∙ ap (λ (n : ℕ). take 24 (bytes_of base Database) ++ take (length (part_of s)) (drop n file)) (sym place)
      ∙ ap (λ (rest : List ℕ). take 24 (bytes_of base Database) ++ rest) (t.there ∙ part)
      ∙ sym (image_saved base s r.first ∙ ap (λ (p : ℕ). with_front base p s.content) first))
      (λ (other : s.page ≢ 1).
      let size : length (part_of s) ≡ page_size = ap length (part_other s other) ∙ r.whole.sized in
      let place : first_place page_size s.page ≡ (s.page - 1) * page_size = place_other page_size s.page other in
      ap (λ (n : ℕ). take n (drop ((s.page - 1) * page_size) file)) (sym size)
      ∙ ap (λ (n : ℕ). take (length (part_of s)) (drop n file)) (sym place)
      ∙ t.there ∙ part_other s other
      ∙ sym (image_saved base s r.first ∙ image_other base s.page s.content other))
      (cases_eq s.page 1);
}
  where
    page_size : ℕ
    page_size = file_page_size base

    file : List ℕ
    file = bytes_of next Database

    end : first_place page_size s.page + length (part_of s) ≡ s.page * page_size
    end = part_end page_size s low r.whole

-- a page that was back still is
step_keeps : (base now next : Content) (pages : ℕ) (s : Saved) (q : ℕ) → 512 ≤ file_page_size base → IsRestorable base pages s → IsStep base now next pages s
    → 1 ≤ q → IsBack base (bytes_of now Database) q → IsBack base (bytes_of next Database) q
step_keeps base now next pages s q low r t some back = ⊎_elim
    (λ (here : q ≡ s.page). rw here (step_back base now next pages s low r t))
    (λ (other : q ≢ s.page).
    let page_size = file_page_size base in
    let end : first_place page_size s.page + length (part_of s) ≡ s.page * page_size = part_end page_size s low r.whole in
    let kept : IsKept page_size (bytes_of now Database) (bytes_of next Database) q =
    page_kept page_size (bytes_of now Database) (bytes_of next Database) (first_place page_size s.page) (length (part_of s)) s.page q t.laid
    (record { numbered = r.whole.named; from = omega arith; to = omega arith }) some other back.whole in
    record { whole = kept.whole; same = kept.same ∙ back.same })
    (cases_eq q s.page)

-- some pages are written back, one after the other
pub record AreRestored (base now last : Content) (pages : List (List ℕ)) (saved : List Saved) : Type 0 where
  pub rolls : Rolls pages now (map (write_of (file_page_size base)) saved)
  pub after : HasPagesOf base last (length pages)
  pub stays : (q : ℕ) → 1 ≤ q → IsBack base (bytes_of now Database) q → IsBack base (bytes_of last Database) q
  pub back : (q : ℕ) → 1 ≤ q → list_any (is_of q) saved ≡ true → IsBack base (bytes_of last Database) q

covered_as : (now : Content) (o : Operation) (at : ℕ) (bytes : List ℕ) → o ≡ Write Database at bytes → IsSafe now at (length bytes) → IsCovered now o × IsNoSave o
covered_as now o at bytes is safe = subst (λ (op : Operation). IsCovered now op × IsNoSave op) (sym is) (safe, tt)

pub restored : (base now : Content) (pages : List (List ℕ)) (saved : List Saved) → Recovers base pages → HasPagesOf base now (length pages) → All (IsRestorable base (length pages)) saved
    → AreRestored base now (after now (map (write_of (file_page_size base)) saved)) pages saved
restored base now pages [] recovers h all = record {
  rolls = keeps base now pages h.keeps recovers;
  after = h;
  stays = λ q some back. back;
  back = λ q some has. absurd (let no_record : false ≡ true = has in cc);
}
restored base now pages (s ∷ ss) recovers h all =
    let page_size = file_page_size base in
    let low : 512 ≤ page_size = (readable base (opened base pages recovers).front).low in
    let r : IsRestorable base (length pages) s = All-head (IsRestorable base (length pages)) s ss all in
    let next = made_by (write_of page_size s) now in
    let t : IsStep base now next (length pages) s = step base now next pages s recovers h r (ap (λ (o : Operation). made_by o now) (write_is page_size s)) in
    let more = restored base next pages ss recovers t.after (All-tail (IsRestorable base (length pages)) s ss all) in
    let covered = covered_as now (write_of page_size s) (first_place page_size s.page) (part_of s) (write_is page_size s) t.safe in
    record {
      rolls = (keeps base now pages h.keeps recovers, covered.0, covered.1, more.rolls);
      after = more.after;
      stays = λ q some back. more.stays q some (step_keeps base now next (length pages) s q low r t some back);
      back = λ q some has. ⊎_elim
          (λ (here : (s.page == q) ≡ true). let same : s.page ≡ q = eqb-true s.page q here in more.stays q some (rw (← same) (step_back base now next (length pages) s low r t)))
          (λ (other : (s.page == q) ≡ false). more.back q some (rw other at has))
          (cases_Bool (s.page == q));
    }
