-- Files at rest over the pages that recovery found: what may be rewritten there, and what the pages are then.
use Rattle.std.proofs.Common.{◌≡◌, ◌∙◌, ℕ, ◌+◌, ◌-◌, ◌*◌, ◌^◌, ◌<◌, ◌≤◌, List, [], ◌∷◌, ◌++◌, take, drop, length, map, refl, sym, ap, subst, arith, true, false, Option, Some, None, ⊎_elim, append-nil, unwrap_or}
use Rattle.std.specs.Prelude.{is_some}
use Rattle.std.proofs.lemmas.List.{length-map}
use Rattle.spe_model.specs.declared.file.FileNo.TheVariants.{Database}
use Rattle.spe_model.specs.declared.recovery.Recovered.{Recovered}
use Rattle.spe_model.specs.Big.{u32_at}
use Rattle.spe_model.specs.Content.{Content, bytes_of, zeros}
use Rattle.spe_model.specs.Database.{Database as Data}
use Rattle.spe_model.specs.FreeList.{names_node}
use Rattle.spe_model.specs.Header.{IsSized, fields, header_of, is_size_valid}
use Rattle.spe_model.specs.Paging.{Paging, lay}
use Rattle.spe_model.specs.Recovery.{file_page, file_page_size, pages_to}
use Rattle.spe_model.specs.Schema.{is_index_page}
use Rattle.spe_model.specs.Served.{usable_in}
use Rattle.spe_model.specs.Settled.{IsWithinLimits, header_in, page_in}
use Rattle.spe_model.specs.Standing.{IsOneOf, StandsFor}
use Rattle.spe_space.proofs.FrontLemmas.{u32_at-take}
use Rattle.spe_frame.specs.Times.{AreSame, times}
use Rattle.spe_frame.proofs.TimesLemmas.{there}
use Rattle.spe_crash.specs.Pages.{AreHeaded, QuietIsWhole, RecoveredAreHeaded}
use Rattle.spe_crash.proofs.PlaceLemmas.{ends_mono, page_end}
use Rattle.spe_transactions.specs.Pages.{named_count, page_at}
use Rattle.spe_transactions.proofs.PageLemmas.{page_counted, page_there, page_whole}
use Rattle.spe_rewrite.specs.declared.change.Change.{Change}
use Rattle.spe_rewrite.specs.Changes.{changed}
use Rattle.spe_rewrite.specs.Idle.{MayRewrite}
use Rattle.spe_convert.specs.Changes.{released_changes}
use Rattle.spe_convert.specs.Dealt.{chained, first_of}
use Rattle.spe_convert.specs.Laws.{StandsWith}
use Rattle.spe_convert.specs.Made.{changed_pages}
use Rattle.spe_convert.specs.Reading.{Holds, are_ascending, usable_of}
use Rattle.spe_convert.specs.Release.{AreReleased, AreResting, IsStockFor, released}
use Rattle.spe_convert.specs.Trunk.{room}
use Rattle.spe_convert.proofs.AscendLemmas.{ascends_apart}
use Rattle.spe_convert.proofs.ChainLemmas.{all_chained}
use Rattle.spe_convert.proofs.FrontLemmas.{FrontIs, front_is, legal_again, parts_valid}
use Rattle.spe_convert.proofs.LaidLemmas.{AreApart, few_free, lacks_none, not_laid, small_count}
use Rattle.spe_convert.proofs.ListLemmas.{heads_changed, heads_few, none_laid, none_or_some, numbers_length}
use Rattle.spe_convert.proofs.ReleaseLemmas.{first_small, release_keeps}
use Rattle.spe_convert.proofs.ShownLemmas.{listed_page, shown, sort_first, zero_first}

module _ (headed : RecoveredAreHeaded) (wholes : QuietIsWhole) (found : Recovered) (limits : IsWithinLimits found) (content : Content) (pages : List (List ℕ)) (rests : AreResting found content pages) where
  pub head : AreHeaded content pages
  head = headed content pages rests.idle.recovers

  pub page_is : (n : ℕ) → IsOneOf found.pages n → page_in pages n ≡ file_page content n
  page_is n inside =
      let many = rests.counted_are in
      let there = page_there pages n inside.0 (omega (arith, inside.1, many)) in
      let is = page_counted (file_page content) (length pages) n inside.0 (omega (arith, inside.1, many)) in
      let same : page_at pages n ≡ Some (file_page content n) = ap (λ (ps : List (List ℕ)). page_at ps n) (sym rests.idle.held) ∙ is in
      ap (λ (o : Option (List ℕ)). unwrap_or o []) (sym there ∙ same)

  whole : found.pages * found.page_size ≤ length (bytes_of content Database)
  whole =
      let all = wholes content pages rests.idle.recovers rests.idle.quiet in
      subst (λ (m : ℕ). m * found.page_size ≤ length (bytes_of content Database)) rests.counted_are
      (subst (λ (s : ℕ). length pages * s ≤ length (bytes_of content Database)) rests.idle.sized all)

  -- the file has these pages
  pub held : Holds found content (page_in pages)
  held n inside =
      let file = bytes_of content Database in
      let size = found.page_size in
      let all = whole in
      let below : n * size ≤ found.pages * size = ends_mono n found.pages size inside.1 in
      let ends : (n - 1) * size + size ≡ n * size = page_end n size inside.0 in
      let none : size - (length file - (n - 1) * size) ≡ 0 = omega (arith, ends, below, all) in
      ap (λ (m : ℕ). take size (drop ((n - 1) * size) file) ++ zeros m) none ∙ append-nil (take size (drop ((n - 1) * size) file))
      ∙ ap (λ (s : ℕ). take s (drop ((n - 1) * s) file)) (sym rests.idle.sized) ∙ sym (page_is n inside)

  pub long : 100 ≤ length (page_in pages 1)
  long =
      let size = file_page_size content in
      let all = wholes content pages rests.idle.recovers rests.idle.quiet in
      let one : 1 * size ≤ length pages * size = ends_mono 1 (length pages) size (let a = rests.counted_are in let b = limits.some in omega (arith, a, b)) in
      let is : length (page_in pages 1) ≡ size = ap length (page_is 1 (omega arith, limits.some)) ∙ page_whole content 1 (omega arith) (omega (arith, one, all)) in
      let sized = rests.idle.sized in
      let low = limits.low in
      omega (arith, is, sized, low)

  pub size_is : (header_in pages).page_size ≡ found.page_size
  size_is = head.sized ∙ rests.idle.sized

  pub used : usable_in (header_in pages) ≡ usable_of found
  used = ap (λ (s : ℕ). s - (header_in pages).reserved) size_is ∙ ap (λ (r : ℕ). found.page_size - r) rests.reserved

  sized : IsSized (header_in pages)
  sized = record {
    low = subst (λ (n : ℕ). 512 ≤ n) (sym size_is) limits.low;
    high = subst (λ (n : ℕ). n ≤ 65536) (sym size_is) limits.high;
    usable =
        subst (λ (n : ℕ). (header_in pages).reserved + 480 ≤ n) (sym size_is)
        (subst (λ (r : ℕ). r + 480 ≤ found.page_size) (sym rests.reserved) limits.usable);
  }

  pub with_free : (db : Data) (free : List ℕ) (s : StandsFor (usable_of found) found.pages (page_in pages) db) → AreSame free s.listed
      → StandsWith found.page_size (usable_of found) found.pages (page_in pages) db free
  with_free db free s same = record {
    header = header_in pages;
    legal = head.legal;
    sized = sized;
    size_is = size_is;
    used = used;
    long = long;
    few = limits.few;
    stands = s;
    free_are = same;
  }

  module _ (free : List ℕ) (ascends : are_ascending 1 found.pages free ≡ true) where
    abbrev pub cs : List Change
    cs = released_changes (usable_of found) found.pages free (page_in pages)

    abbrev pub new : Paging
    new = lay (changed cs) (page_in pages)

    apart : AreApart found.pages free
    apart = ascends_apart found.pages free limits.some ascends

    less : (n : ℕ) → times n (changed_pages cs) ≤ times n (1 ∷ free)
    less n =
        let ts = chained (room (usable_of found)) (length free) free in
        let a = heads_few n ts in
        let b = ap (times n) (heads_changed (usable_of found) (page_in pages) ts) in
        let c = ap (times n) (all_chained (room (usable_of found)) (length free) free (omega arith)) in
        omega (arith, a, b, c)

    front : FrontIs found.pages (first_of free) (length free) (page_in pages 1) (new 1)
    front =
        let few = small_count found.pages found.page_size limits.low limits.few in
        let many = few_free found.pages free apart in
        front_is found.pages (first_of free) (length free) (page_in pages 1) (omega (arith, few))
        (first_small free (λ n in_it. let within = apart.within n in_it in omega (arith, within.1, few))) (omega (arith, many, few)) long

    named : named_count (new 1) ≡ found.pages
    named = u32_at-take 100 28 (new 1) (omega arith) ∙ front.count_is

    is_map : released found pages free ≡ map new (pages_to found.pages)
    is_map = ap (λ (k : ℕ). map new (pages_to k)) named

    map_long : length (map new (pages_to found.pages)) ≡ found.pages
    map_long = length-map (pages_to found.pages) new ∙ numbers_length 1 found.pages

    page_new : (n : ℕ) → IsOneOf found.pages n → page_in (released found pages free) n ≡ new n
    page_new n inside = ap (λ (ps : List (List ℕ)). page_in ps n) is_map ∙ listed_page new found.pages n inside.0 inside.1 map_long

    first_new : page_in (released found pages free) 1 ≡ new 1
    first_new = page_new 1 (omega arith, limits.some)

    zero_kept : new 0 ≡ page_in pages 0
    zero_kept =
        not_laid cs (page_in pages) 0 (none_laid cs 0
        (let a = less 0 in
        let b = lacks_none found.pages free apart in
        let c = there 0 1 free (λ (e : 0 ≡ 1). absurd (omega (arith, e))) in
        omega (arith, a, b, c)))

    sort : is_index_page new 0 ≡ is_index_page (page_in (released found pages free)) 0
    sort = sort_first new (released found pages free) (ap (take 24) first_new ∙ front.like.first ∙ ap (take 24) (sym (zero_first pages) ∙ sym zero_kept))

    stock_for : (db : Data) (s : StandsFor (usable_of found) found.pages (page_in pages) db) → AreSame free s.listed → IsStockFor found free (released found pages free) db
    stock_for db s same =
        let kept = release_keeps found.page_size (usable_of found) found.pages (page_in pages) db free (with_free db free s same) in
        let counts = kept.1 in
        let after = shown (usable_of found) found.pages new (page_in (released found pages free)) db counts.stands page_new sort in
        record {
          number = ap length is_map ∙ map_long;
          header = counts.header;
          front = record {
            legal = ap (λ (b : List ℕ). header_of (take 100 b)) first_new ∙ counts.front.legal;
            valid = counts.front.valid;
            number = counts.front.number;
            few = counts.front.few;
          };
          size = counts.size_is;
          used = counts.used;
          stock = ap names_node first_new ∙ kept.0;
          stands = after.0;
          free_are = λ n. counts.free_are n ∙ ap (times n) (sym after.1);
        }

    pub released_are : ((db : Data) (s : StandsFor (usable_of found) found.pages (page_in pages) db) → AreSame free s.listed) → AreReleased found pages free
    released_are all = record { ascending = ascends; all = all; keep = λ db s. stock_for db s (all db s) }

    none_above : (p : ℕ) → found.pages < p → changed cs p ≡ None
    none_above p above =
        let some = limits.some in
        none_laid cs p
        (let a = less p in
        let b = there p 1 free (λ (e : p ≡ 1). absurd (omega (arith, e, above, some))) in
        let c : times p free ≡ 0 = ⊎_elim
        (λ (none : times p free ≡ 0). none)
        (λ (in_it : 0 < times p free). let within = apart.within p in_it in absurd (omega (arith, within.1, above)))
        (none_or_some (times p free)) in
        omega (arith, a, b, c))

    not_above : {X : Type 0} (p : ℕ) → length pages < p → is_some (changed cs p) ≡ true → X
    not_above p above some =
        let many = rests.counted_are in
        let none : is_some (changed cs p) ≡ false = ap is_some (none_above p (omega (arith, above, many))) in
        absurd (let both : true ≡ false = sym some ∙ none in cc)

    valid : is_size_valid (fields (take 100 (new 1))) ≡ true
    valid =
        let some = limits.some in
        let number : u32_at (take 100 (new 1)) 28 ≡ found.pages = u32_at-take 100 28 (new 1) (omega arith) ∙ front.count_is in
        let copied : u32_at (take 100 (new 1)) 24 ≡ u32_at (take 100 (new 1)) 92 =
        u32_at-take 100 24 (new 1) (omega arith) ∙ front.copied ∙ sym (u32_at-take 100 92 (new 1) (omega arith)) in
        parts_valid (u32_at (take 100 (new 1)) 28) (u32_at (take 100 (new 1)) 24) (u32_at (take 100 (new 1)) 92) (omega (arith, number, some)) copied

    pub may : MayRewrite found.page_size found.pages cs content
    may = record {
      pages = pages;
      idle = rests.idle;
      count_is = rests.counted_are;
      lay = record {
        front = λ bytes is. let same : new 1 ≡ bytes = ap (λ (o : Option (List ℕ)). unwrap_or o []) is in ap (take 24) (sym same) ∙ front.like.first;
        first = λ p above some. refl;
        counted = λ p above some. not_above p above some;
        commit = record {
          legal = (legal_again (page_in pages 1) (new 1) (header_in pages) head.legal long front.alike.long front.like).legal;
          valid = valid;
          low = let a = named in let b = rests.counted_are in omega (arith, a, b);
          small = subst (λ (k : ℕ). k * found.page_size ≤ 2 ^ 30) (sym named) limits.few;
          added = λ p above within. absurd (let a = named in let b = rests.counted_are in omega (arith, above, within, a, b));
        };
      };
    }
