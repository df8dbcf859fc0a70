-- What a transaction may commit, and the pages after that.
use Rattle.std.proofs.Common.{◌≡◌, ℕ, ◌*◌, ◌<◌, ◌≤◌, ◌^◌, List, length, map, take, refl, sym, ap, ◌∙◌, arith, subst, true, false, Option, Some, None, Result, Ok, Err, ⊎_elim}
use Rattle.std.specs.Prelude.{◌&&◌, is_some, nat_le, unwrap_or}
use Rattle.std.specs.Option.{option_map_or}
use Rattle.std.proofs.lemmas.Bool.{and_parts, cases_lt, leb-true}
use Rattle.spe_model.specs.declared.header.Header.{Header}
use Rattle.spe_model.specs.declared.header.HeaderFault.{HeaderFault}
use Rattle.spe_model.specs.Header.{fields, header_of, is_size_valid}
use Rattle.spe_model.specs.Paging.{PageMap, Paging, lay}
use Rattle.spe_model.specs.Recovery.{file_page_size}
use Rattle.spe_model.specs.Settled.{header_in, page_in}
use Rattle.spe_crash.proofs.PagesLemmas.{opened, some_pages}
use Rattle.spe_transactions.specs.Pages.{MayCommit, laid_pages, named_count, page_at}
use Rattle.spe_transactions.proofs.PageLemmas.{is_at, page_counted}
use Rattle.spe_transactions.proofs.WorkLemmas.{count_named, header_legal, small_enough}
use Rattle.spe_core.specs.Enabled.{are_written, count_of, is_next_header, may_commit, page_size_of}
use Rattle.spe_stored.specs.Sheets.{Sheets, has_sheet, pages_at, sheet_at}
use Rattle.spe_core.specs.Sound.{IsSound, now_laid}
use Rattle.spe_core.specs.State.{Live, State}
use Rattle.spe_core.proofs.SoundLaid.{header_fields, written_up}
use Rattle.spe_core.proofs.SoundSteps.{count_is}

-- what makes a header one that a database may have next
record IsHeader (s : State) (written : Sheets) (bytes : List ℕ) : Type 0 where
  legal : header_of bytes ≡ Ok (fields bytes)
  valid : is_size_valid (fields bytes) ≡ true
  low : count_of s ≤ (fields bytes).pages
  small : (fields bytes).pages * page_size_of s ≤ 2 ^ 30
  added : (p : ℕ) → count_of s < p → p ≤ (fields bytes).pages → has_sheet p written ≡ true

header_next : (s : State) (written : Sheets) (bytes : List ℕ) → is_next_header s written (header_of bytes) ≡ true → IsHeader s written bytes
unfolding is_next_header are_written
header_next s written bytes may = by_result (header_of bytes) refl may
  where
    by_header : (h : Header) → header_of bytes ≡ Ok h → fields bytes ≡ h → is_next_header s written (Ok h) ≡ true → IsHeader s written bytes
    by_header h e same may_h =
        let one = and_parts (is_size_valid h && nat_le (count_of s) h.pages && nat_le (h.pages * page_size_of s) (2 ^ 30)) (are_written (count_of s) h.pages written) may_h in
        let two = and_parts (is_size_valid h && nat_le (count_of s) h.pages) (nat_le (h.pages * page_size_of s) (2 ^ 30)) one.0 in
        let three = and_parts (is_size_valid h) (nat_le (count_of s) h.pages) two.0 in
        let pages : h.pages ≡ (fields bytes).pages = sym (ap (λ (x : Header). x.pages) same) in
        record {
          legal = e ∙ ap (λ (x : Header). Ok x) (sym same);
          valid = ap is_size_valid same ∙ three.0;
          low = subst (λ (n : ℕ). count_of s ≤ n) pages (leb-true (count_of s) h.pages three.1);
          small = subst (λ (n : ℕ). n * page_size_of s ≤ 2 ^ 30) pages (leb-true (h.pages * page_size_of s) (2 ^ 30) two.1);
          added = λ p above within. written_up (count_of s) h.pages written p one.1 above (subst (λ (n : ℕ). p ≤ n) (sym pages) within);
        }

    by_result : (result : Result Header HeaderFault) → header_of bytes ≡ result → is_next_header s written result ≡ true → IsHeader s written bytes
    by_result (Err fault) e no_may = absurd cc
    by_result (Ok h) e may_h = by_header h e (header_fields bytes h e) may_h

module _ (s : State) (t : Live) (sound : IsSound s) where
  abbrev now : List (List ℕ)
  now = now_laid s

  abbrev next : Paging
  next = lay (pages_at t.written) (page_in now)

  pub named_now : named_count (page_in now 1) ≡ length now
  named_now = count_named s.content now sound.recovers sound.counted

  pub can_commit : may_commit s t ≡ true → MayCommit now (pages_at t.written) (file_page_size s.content)
  unfolding may_commit
  can_commit may = by_found (sheet_at 1 t.written) refl may
    where
      by_found : (found : Option (List ℕ)) → sheet_at 1 t.written ≡ found → option_map_or (λ page. is_next_header s t.written (header_of (take 100 page))) found true ≡ true
          → MayCommit now (pages_at t.written) (file_page_size s.content)
      by_found None e may_none =
          let same : next 1 ≡ page_in now 1 = ap (λ (o : Option (List ℕ)). unwrap_or o (page_in now 1)) e in
          let named : named_count (next 1) ≡ length now = ap named_count same ∙ named_now in
          record {
            legal = rw same (header_legal s.content now sound.recovers);
            valid = rw same sound.counted;
            low = rw named (omega arith);
            small = rw named (small_enough s.content now sound.recovers);
            added = λ p above within. absurd (omega (arith, named));
          }
      by_found (Some page) e may_some =
          let same : next 1 ≡ page = ap (λ (o : Option (List ℕ)). unwrap_or o (page_in now 1)) e in
          let h : IsHeader s t.written (take 100 page) = header_next s t.written (take 100 page) may_some in
          record {
            legal = rw same h.legal;
            valid = rw same h.valid;
            low = rw same (omega (arith, h.low, count_is s sound));
            small = rw same h.small;
            added = λ p above within. h.added p (omega (arith, count_is s sound)) (rw same at within);
          }

  pub next_counted : MayCommit now (pages_at t.written) (file_page_size s.content) → is_size_valid (header_in (laid_pages now (pages_at t.written))) ≡ true
  next_counted m =
      let some : 1 ≤ length now = some_pages s.content now (opened s.content now sound.recovers) in
      let there : page_at (laid_pages now (pages_at t.written)) 1 ≡ Some (next 1) = page_counted next (named_count (next 1)) 1 (omega arith) (omega (arith, m.low)) in
      ap (λ (page : List ℕ). is_size_valid (fields (take 100 page))) (is_at (laid_pages now (pages_at t.written)) 1 (next 1) there).is ∙ m.valid
