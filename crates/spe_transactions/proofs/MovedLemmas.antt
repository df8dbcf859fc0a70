-- A journal changes, and the database and the other journals stay.
use Rattle.std.proofs.Common.{◌≡◌, ◌≢◌, ℕ, ◌+◌, ◌-◌, ◌*◌, ◌<◌, List, [], ◌∷◌, ◌++◌, length, take, drop, refl, sym, ap, ◌∙◌, arith, zero, suc, Bool, true, false, None, ⊎_elim, inl, inr}
use Rattle.std.specs.Prelude.{◌⊎◌}
use Rattle.std.specs.List.{find}
use Rattle.std.proofs.Math.Path.{fun_ext}
use Rattle.std.proofs.lemmas.Bool.{cases_Bool, cases_eq}
use Rattle.std.proofs.lemmas.List.{append-nil, drop_all, take_at}
use Rattle.spe_model.specs.declared.file.FileNo.TheVariants.{Database, Journal}
use Rattle.spe_model.specs.Content.{Content, bytes_of, with_file, zeros}
use Rattle.spe_model.specs.Covered.{Recovers}
use Rattle.spe_model.specs.Header.{page_count_of, page_size_at}
use Rattle.spe_model.specs.Journal.{Saved, hot_records, numbers_from}
use Rattle.spe_model.specs.Recovery.{all_hot, file_page, file_page_size, has_other_size, hot_of, is_of, is_there, journal_of, other_size, recovered_header}
use Rattle.spe_model.specs.Trace.{laid_over, made_by}
use Rattle.spe_model.specs.Trace.Operation.{Write}
use Rattle.spe_crash.proofs.FileLemmas.{journal_leaves}
use Rattle.spe_crash.proofs.FrontLemmas.{IsReadable, readable}
use Rattle.spe_crash.proofs.HotLemmas.{records_in, shared_in}
use Rattle.spe_crash.proofs.KeepLemmas.{front-refl, image_same, keeps}
use Rattle.spe_crash.proofs.NumbersLemmas.{page_passes}
use Rattle.spe_crash.proofs.PagesLemmas.{HasPages, opened}
use Rattle.spe_transactions.proofs.FilesLemmas.{journal_set, journal_stays, set_length}
use Rattle.spe_transactions.proofs.SavedLemmas.{is_other}

pub record IsMoved (content now : Content) (id : ℕ) (journal : List ℕ) : Type 0 where
  pub files : length now ≡ length content
  pub database : bytes_of now Database ≡ bytes_of content Database
  pub own : journal_of now id ≡ journal
  pub others : (i : ℕ) → i ≢ id → journal_of now i ≡ journal_of content i

pub moved : (content : Content) (id : ℕ) (journal : List ℕ) → length content ≡ 17 → id < 16 → IsMoved content (with_file content (Journal id) journal) id journal
moved content id journal files low = record {
  files = set_length content (id + 1) _;
  database = journal_leaves content id journal;
  own = journal_set content id journal files low;
  others = λ i other. journal_stays content id i journal other;
}

laid_behind : (old bytes : List ℕ) → laid_over old (length old) bytes ≡ old ++ bytes
laid_behind old bytes =
    let none : length old - length old ≡ 0 = omega arith in
    let front : take (length old) (old ++ zeros (length old - length old)) ≡ old = take_at old (zeros (length old - length old)) (length old) refl in
    let back : drop (length old + length bytes) old ≡ [] = drop_all (length old + length bytes) old (omega arith) in
    rw (front, back) (append-nil (old ++ bytes))

-- some bytes are written behind a journal
pub moved_behind : (content : Content) (id : ℕ) (bytes : List ℕ) → length content ≡ 17 → id < 16
    → IsMoved content (made_by (Write (Journal id) (length (journal_of content id)) bytes) content) id (journal_of content id ++ bytes)
moved_behind content id [] files low = record { files = refl; database = refl; own = sym (append-nil (journal_of content id)); others = λ i other. refl }
moved_behind content id (b ∷ bs) files low = rw (laid_behind (journal_of content id) (b ∷ bs)) (moved content id (journal_of content id ++ b ∷ bs) files low)

module _ (content now : Content) (id : ℕ) (journal : List ℕ) (m : IsMoved content now id journal) where
  pub moved_size : file_page_size now ≡ file_page_size content
  moved_size = ap (λ (f : List ℕ). page_size_at (take 100 f)) m.database

  pub moved_page : (p : ℕ) → file_page now p ≡ file_page content p
  moved_page p = ap (λ (f : List ℕ). take (page_size_at (take 100 f)) (drop ((p - 1) * page_size_at (take 100 f)) f)) m.database

  pub moved_hot : (i : ℕ) → i ≢ id → hot_of now i ≡ hot_of content i
  moved_hot i other = ap (λ (n : ℕ). hot_records n (journal_of now i)) moved_size ∙ ap (hot_records (file_page_size content)) (m.others i other)

  pub moved_own : hot_of now id ≡ hot_records (file_page_size content) journal
  moved_own = ap (λ (n : ℕ). hot_records n (journal_of now id)) moved_size ∙ ap (hot_records (file_page_size content)) m.own

  -- with the records that the journal had
  pub same_hot_keeps : (pages : List (List ℕ)) → Recovers content pages → is_other (file_page_size content) journal ≡ false → hot_records (file_page_size content) journal ≡ hot_of content id → Recovers now pages
  same_hot_keeps pages recovers own same =
      let has : HasPages content pages = opened content pages recovers in
      let read : IsReadable (bytes_of content Database) = readable content has.front in
      let hot : hot_of now ≡ hot_of content =
      fun_ext (λ i. ⊎_elim (λ (here : i ≡ id). rw here (moved_own ∙ same)) (λ (other : i ≢ id). moved_hot i other) (cases_eq i id)) in
      let all : all_hot now ≡ all_hot content = ap (λ (h : ℕ → List Saved). records_in h 0 16) hot in
      keeps content now pages (record {
        front = rw m.database (front-refl (bytes_of content Database) read.long);
        sized = others_own has.sized own;
        apart = ap (λ (h : ℕ → List Saved). shared_in h 0 16) hot ∙ has.apart;
        count = ap (λ (f : List ℕ). page_count_of (recovered_header content) (length f)) m.database;
        images = λ p low high. image_same content now p (ap (take 24) m.database) (ap (find (is_of p)) all) (λ lacks. moved_page p);
        there = λ p low high. there_same p all ∙ page_passes (is_there content) (length pages) p has.there low high;
      }) recovers
    where
      find_either : (test other : ℕ → Bool) (n count : ℕ) → ((i : ℕ) → (other i ≡ test i) ⊎ (other i ≡ false)) → find test (numbers_from n count) ≡ None → find other (numbers_from n count) ≡ None
      find_either test other n zero thin none = refl
      find_either test other n (suc count) thin none = ⊎_elim
          (λ (hit : test n ≡ true). absurd (let found = rw hit at none in cc))
          (λ (missed : test n ≡ false).
          let also : other n ≡ false = ⊎_elim (λ (stays : other n ≡ test n). stays ∙ missed) (λ (gone : other n ≡ false). gone) (thin n) in
          rw also (find_either test other (n + 1) count thin (rw missed at none)))
          (cases_Bool (test n))

      others_own : other_size content ≡ None → is_other (file_page_size content) journal ≡ false → other_size now ≡ None
      others_own none clear =
          find_either (has_other_size content) (has_other_size now) 0 16
          (λ i.
          ⊎_elim
          (λ (here : i ≡ id). inr (rw here (ap (λ (n : ℕ). is_other n (journal_of now id)) moved_size ∙ ap (is_other (file_page_size content)) m.own ∙ clear)))
          (λ (other : i ≢ id). inl (ap (λ (n : ℕ). is_other n (journal_of now i)) moved_size ∙ ap (is_other (file_page_size content)) (m.others i other)))
          (cases_eq i id))
          none

      there_same : (p : ℕ) → all_hot now ≡ all_hot content → is_there now p ≡ is_there content p
      there_same p all = rw (all, moved_size, m.database) refl
