-- The second transaction of a preparation: what may be rewritten, and what the pages are then.
use Rattle.std.proofs.Common.{◌≡◌, ◌≢◌, ◌∙◌, ℕ, ◌-◌, ◌*◌, ◌^◌, ◌<◌, ◌≤◌, List, [], ◌∷◌, ◌++◌, append_assoc, take, drop, length, map, refl, sym, ap, subst, arith, true, false, Option, Some, None, unwrap_or, ⊎_elim}
use Rattle.std.specs.Prelude.{is_some}
use Rattle.std.proofs.lemmas.Bool.{cases_lt, eq-eqb, ltb-false, ne_eqb}
use Rattle.spe_model.specs.declared.recovery.Recovered.{Recovered}
use Rattle.spe_model.specs.Big.{u32_at}
use Rattle.byteorder.specs.Endian.{big_bytes}
use Rattle.spe_model.specs.Content.{Content, zeros}
use Rattle.spe_model.specs.Database.{Database as Data}
use Rattle.spe_model.specs.FreeList.{is_list_count, names_node}
use Rattle.spe_model.specs.Header.{fields, is_size_valid}
use Rattle.spe_model.specs.Paging.{Paging, lay}
use Rattle.spe_model.specs.Recovery.{pages_to}
use Rattle.spe_model.specs.Settled.{IsWithinLimits, header_in, page_in}
use Rattle.spe_model.specs.Standing.{IsOneOf, StandsFor}
use Rattle.spe_space.proofs.FrontLemmas.{u32_at-take}
use Rattle.spe_frame.specs.Times.{AreSame, times}
use Rattle.spe_frame.proofs.TimesLemmas.{here, same_or_not}
use Rattle.spe_crash.specs.Pages.{QuietIsWhole, RecoveredAreHeaded}
use Rattle.spe_transactions.specs.Pages.{laid_pages, named_count}
use Rattle.spe_rewrite.specs.declared.change.Change.{Change}
use Rattle.spe_rewrite.specs.Changes.{changed}
use Rattle.spe_rewrite.specs.Idle.{AreIdle, MayRewrite}
use Rattle.spe_convert.specs.Changes.{before, supply}
use Rattle.spe_convert.specs.Dealt.{first_of}
use Rattle.spe_convert.specs.Made.{dealt_pages}
use Rattle.spe_convert.specs.Prepare.{ArePrepared, IsServerFor, is_over, prepared, prepared_count, server_form, with_count}
use Rattle.spe_convert.specs.Reading.{are_ascending, usable_of}
use Rattle.spe_convert.specs.Release.{AreResting}
use Rattle.spe_convert.specs.Trunk.{number_bytes, page_of, room}
use Rattle.spe_convert.proofs.AscendLemmas.{Rise, ascends_apart}
use Rattle.spe_convert.proofs.CountedLemmas as counting
use Rattle.spe_convert.proofs.FrontLemmas.{FrontIs, front_is, legal_again, parts_valid}
use Rattle.spe_convert.proofs.LaidLemmas.{AreApart, laid_is, not_laid, small_count}
use Rattle.spe_convert.proofs.ListLemmas.{none_laid}
use Rattle.spe_convert.proofs.ListedLemmas.{list_page, listed_for, map_numbers}
use Rattle.spe_convert.proofs.PrepareLemmas.{prepare_keeps, supply_apart, supply_length}
use Rattle.spe_convert.proofs.RestLemmas.{head, long, with_free}
use Rattle.spe_convert.proofs.ShownLemmas.{zero_first}
use Rattle.spe_convert.proofs.TrunkLemmas.{one_at}
use Rattle.spe_convert.proofs.SupplyLemmas.{added_changed, dealt_rise, pages_changed, rise_lacks, supply_ascends}

first_there : (all : List ℕ) → 1 ≤ length all → 0 < times (first_of all) all
first_there [] some = absurd (omega (arith, some))
first_there (p ∷ ps) some = let at = here p p ps refl in omega (arith, at)

-- what lies over one thing, lies over another
same_laid : {X : Type 0} (o : Option X) (x y : X) → is_some o ≡ true → unwrap_or o x ≡ unwrap_or o y
same_laid None x y some = absurd cc
same_laid (Some z) x y some = refl

pub fits_number : (found : Recovered) (lists : ℕ) (free : List ℕ) → is_over found lists free ≡ false → prepared_count found lists free * found.page_size ≤ 2 ^ 30
fits_number found lists free is = ltb-false (2 ^ 30) (prepared_count found lists free * found.page_size) is

module _ (headed : RecoveredAreHeaded) (wholes : QuietIsWhole) (found : Recovered) (limits : IsWithinLimits found) (lists : ℕ) (one : 1 ≤ lists) (most : lists ≤ 16)
    (content : Content) (pages : List (List ℕ)) (rests : AreResting found content pages) (free : List ℕ) (ascends : are_ascending 1 found.pages free ≡ true) (fits : is_over found lists free ≡ false) where
  abbrev all : List ℕ
  all = supply found.pages lists free

  abbrev count : ℕ
  count = prepared_count found lists free

  abbrev pub cs : List Change
  cs = server_form found lists pages free

  abbrev pub new : Paging
  new = lay (changed cs) (page_in pages)

  within : count * found.page_size ≤ 2 ^ 30
  within = fits_number found lists free fits

  some : 1 ≤ count
  some = let a = limits.some in omega (arith, a)

  apart : AreApart count all
  apart = supply_apart found.pages lists free (ascends_apart found.pages free limits.some ascends)

  long_all : 1 ≤ length all
  long_all = let a = supply_length found.pages lists free in omega (arith, a)

  rise : Rise 1 (dealt_pages (room (usable_of found)) lists all)
  rise = dealt_rise (room (usable_of found)) lists count all long_all (supply_ascends found.pages lists free limits.some ascends)

  front : FrontIs count (first_of all) 0 (page_in pages 1) (new 1)
  front =
      let few = small_count count found.page_size limits.low within in
      let first = apart.within (first_of all) (first_there all long_all) in
      front_is count (first_of all) 0 (page_in pages 1) (omega (arith, few)) (omega (arith, few, first.1)) (omega arith) (long headed wholes found limits content pages rests)

  named : named_count (new 1) ≡ count
  named = u32_at-take 100 28 (new 1) (omega arith) ∙ front.count_is

  pub list_is : prepared found lists pages free ≡ map new (pages_to count)
  list_is = ap (λ (k : ℕ). map new (pages_to k)) named

  zero_kept : new 0 ≡ page_in pages 0
  zero_kept =
      not_laid cs (page_in pages) 0 (none_laid cs 0
      (ap (times 0) (pages_changed found.page_size (usable_of found) found.pages lists free (page_in pages))
      ∙ rise_lacks 0 0 (1 ∷ dealt_pages (room (usable_of found)) lists all) (omega arith) (omega arith, rise)))

  -- the node page names so many lists
  node_number : u32_at (new (first_of all)) 0 ≡ lists
  node_number =
      let usable = usable_of found in
      let node = first_of all in
      let firsts = take lists (drop 1 all) in
      let old = before found.page_size found.pages (page_in pages) node in
      let bytes = page_of usable (lists ∷ firsts) old in
      let zs = zeros (usable - 4 * length (lists ∷ firsts)) in
      let ds = drop usable old in
      let in_it = first_there all long_all in
      let other : node ≢ 1 = λ (e : node ≡ 1). let l = apart.lacks in let z = ap (λ (m : ℕ). times m all) e in absurd (omega (arith, in_it, z, l)) in
      let laid : changed cs node ≡ Some bytes = rw (ne_eqb node 1 other, eq-eqb node node refl) refl in
      let whole : drop 0 (new node) ≡ big_bytes 4 lists ++ (number_bytes firsts ++ (zs ++ ds)) =
      laid_is cs (page_in pages) node bytes laid ∙ append_assoc (number_bytes (lists ∷ firsts)) zs ds ∙ append_assoc (big_bytes 4 lists) (number_bytes firsts) (zs ++ ds) in
      one_at (new node) 0 lists (number_bytes firsts ++ (zs ++ ds)) whole (omega (arith, most))

  keep : (db : Data) (s : StandsFor (usable_of found) found.pages (page_in pages) db) → AreSame free s.listed → IsServerFor found lists free (prepared found lists pages free) db
  keep db s same =
      let kept = prepare_keeps found.page_size (usable_of found) found.pages lists (page_in pages) db free (with_free headed wholes found limits content pages rests db free s same) one most within in
      let node_in = apart.within (first_of all) (first_there all long_all) in
      let is = listed_for found count new (prepared found lists pages free) db all some list_is
      (front.like.first ∙ ap (take 24) (sym (zero_first pages) ∙ sym zero_kept)) kept.1 in
      let page : (n : ℕ) → IsOneOf count n → page_in (prepared found lists pages free) n ≡ new n = list_page new count (prepared found lists pages free) list_is in
      let first : page_in (prepared found lists pages free) 1 ≡ new 1 = page 1 (omega arith, some) in
      let node : u32_at (new 1) 32 ≡ first_of all = front.first_is in
      record {
        is = is.is;
        prepared_are = (
          ap names_node first ∙ kept.0.0,
          ap (λ (b : List ℕ). is_list_count (u32_at (page_in (prepared found lists pages free) (u32_at b 32)) 0)) first
              ∙ ap (λ (n : ℕ). is_list_count (u32_at (page_in (prepared found lists pages free) n) 0)) node
              ∙ ap (λ (b : List ℕ). is_list_count (u32_at b 0)) (page (first_of all) node_in)
              ∙ ap (λ (n : ℕ). is_list_count (u32_at (new n) 0)) (sym node)
              ∙ kept.0.1,
        );
        lists_are =
            ap (λ (b : List ℕ). u32_at (page_in (prepared found lists pages free) (u32_at b 32)) 0) first
            ∙ ap (λ (n : ℕ). u32_at (page_in (prepared found lists pages free) n) 0) node
            ∙ ap (λ (b : List ℕ). u32_at b 0) (page (first_of all) node_in)
            ∙ node_number;
        free_are = is.free_are;
      }

  pub prepared_are : names_node (page_in pages 1) ≡ false → ((db : Data) (s : StandsFor (usable_of found) found.pages (page_in pages) db) → AreSame free s.listed) → ArePrepared found lists pages free
  prepared_are stock all_are = record { ascending = ascends; stock = stock; fits = fits; all = all_are; keep = λ db s. keep db s (all_are db s) }

  abbrev pub counted_list : List (List ℕ)
  counted_list = with_count found pages

  counted_page : (n : ℕ) → IsOneOf found.pages n → page_in counted_list n ≡ counting.new headed wholes found limits content pages rests n
  counted_page = counting.page_new headed wholes found limits content pages rests

  counted_first : page_in counted_list 1 ≡ counting.new headed wholes found limits content pages rests 1
  counted_first = counting.first_new headed wholes found limits content pages rests

  same_page : (n : ℕ) → 1 ≤ n → n ≤ count → lay (changed cs) (page_in counted_list) n ≡ new n
  same_page n low high = ⊎_elim
      (λ (e : n ≡ 1). subst (λ (m : ℕ). lay (changed cs) (page_in counted_list) m ≡ new m) (sym e) refl)
      (λ (other : n ≢ 1). ⊎_elim
      (λ (above : found.pages < n). same_laid (changed cs n) (page_in counted_list n) (page_in pages n)
      (added_changed found.page_size (usable_of found) found.pages lists free (page_in pages) n above high))
      (λ (inside : n ≤ found.pages).
      ap (unwrap_or (changed cs n)) (counted_page n (low, inside) ∙ counting.kept headed wholes found limits content pages rests n other))
      (cases_lt found.pages n))
      (same_or_not n 1)

  -- the pages then are the old ones with all changes laid over them
  pub laid_same : laid_pages counted_list (changed cs) ≡ prepared found lists pages free
  laid_same =
      let k = named_count (new 1) in
      map_numbers (lay (changed cs) (page_in counted_list)) new 1 k (λ n low high. same_page n low (let e = named in omega (arith, high, e)))

  valid : is_size_valid (fields (take 100 (new 1))) ≡ true
  valid =
      let number : u32_at (take 100 (new 1)) 28 ≡ count = u32_at-take 100 28 (new 1) (omega arith) ∙ front.count_is in
      let copied : u32_at (take 100 (new 1)) 24 ≡ u32_at (take 100 (new 1)) 92 =
      u32_at-take 100 24 (new 1) (omega arith) ∙ front.copied ∙ sym (u32_at-take 100 92 (new 1) (omega arith)) in
      parts_valid (u32_at (take 100 (new 1)) 28) (u32_at (take 100 (new 1)) 24) (u32_at (take 100 (new 1)) 92) (let a = some in omega (arith, number, a)) copied

  pub may_serve : (now : Content) → AreIdle found.page_size now counted_list → MayRewrite found.page_size found.pages cs now
  may_serve now idle =
      let number : length counted_list ≡ found.pages = counting.list_number headed wholes found limits content pages rests in
      let kept = counting.front headed wholes found limits content pages rests in
      record {
        pages = counted_list;
        idle = idle;
        count_is = number;
        lay = record {
          front = λ bytes is. let same : new 1 ≡ bytes = ap (λ (o : Option (List ℕ)). unwrap_or o (page_in pages 1)) is in
              ap (take 24) (sym same) ∙ front.like.first ∙ sym kept.like.first ∙ sym (ap (take 24) counted_first);
          first = λ p above has. refl;
          counted = λ p above has. counting.list_valid headed wholes found limits content pages rests;
          commit = record {
            legal = (legal_again (page_in pages 1) (new 1) (header_in pages) (head headed wholes found limits content pages rests).legal (long headed wholes found limits content pages rests) front.alike.long front.like).legal;
            valid = valid;
            low = let a = named in omega (arith, a, number);
            small = subst (λ (k : ℕ). k * found.page_size ≤ 2 ^ 30) (sym named) within;
            added = λ p above inside. let a = named in added_changed found.page_size (usable_of found) found.pages lists free (page_in pages) p (omega (arith, above, number)) (omega (arith, inside, a));
          };
        };
      }
