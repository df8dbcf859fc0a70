-- What all changes of free lists share.
use Rattle.std.proofs.Common.{◌≡◌, ◌≢◌, ℕ, ◌+◌, ◌-◌, ◌*◌, ◌/◌, ◌^◌, ◌<◌, ◌≤◌, ◌∙◌, List, [], ◌∷◌, ◌++◌, take, length, refl, sym, ap, arith, Option, Some, None, Ok, unwrap_or, ⊎_elim}
use Rattle.std.proofs.Math.Nat.{le-mul_of_pos_right}
use Rattle.std.specs.List.{flat_map}
use Rattle.spe_model.specs.declared.header.Header.{Header}
use Rattle.spe_model.specs.Big.{u32_at}
use Rattle.spe_model.specs.Database.{Database}
use Rattle.spe_model.specs.Header.{IsSized, fields, header_of}
use Rattle.spe_model.specs.Paging.{Paging, lay}
use Rattle.spe_model.specs.Served.{HasHeader, usable_in}
use Rattle.spe_model.specs.Standing.{IsOneOf, StandsFor, all_pages, pages_of_some}
use Rattle.spe_space.proofs.FrontLemmas.{u32_at-take}
use Rattle.spe_frame.specs.Times.{AreSame, AreSingle, HoldsOf, Lacks, times}
use Rattle.spe_frame.proofs.ForestLemmas.{pages_split}
use Rattle.spe_frame.proofs.TimesLemmas.{Each, each_from_holds, here, holds_from_all, same_or_not, single_from_distinct, there, times-append}
use Rattle.spe_frame.proofs.TreeLemmas.{lower_pages}
use Rattle.spe_rewrite.specs.declared.change.Change.{Change}
use Rattle.spe_rewrite.specs.Changes.{changed}
use Rattle.spe_convert.specs.Trunk.{Trunk, room, trunk_bytes}
use Rattle.spe_convert.proofs.TrunkLemmas.{EachTrunk, IsSmall, IsTrunk, trunk_is}
use Rattle.spe_convert.proofs.FrontLemmas.{FrontIs, legal_again, parts_valid}
use Rattle.spe_convert.proofs.ListLemmas.{few_single, none_or_some}
use Rattle.spe_convert.proofs.ChainLemmas.{Fits}

-- the pages of free lists: each once, in the file, and not page 1
pub record AreApart (count : ℕ) (listed : List ℕ) : Type 0 where
  pub single : AreSingle listed
  pub within : HoldsOf (IsOneOf count) listed
  pub lacks : Lacks listed 1
  pub some : 1 ≤ count

pub listed_apart : (usable count : ℕ) (pages : Paging) (db : Database) (s : StandsFor usable count pages db) → AreApart count s.listed
listed_apart usable count pages db s =
    let schema = all_pages usable pages s.height 1 in
    let others = flat_map (pages_of_some usable pages) s.trees in
    let once = single_from_distinct (schema ++ others ++ s.listed) s.distinct in
    let within = holds_from_all (IsOneOf count) (schema ++ others ++ s.listed) s.within in
    let parts : (n : ℕ) → times n (schema ++ others ++ s.listed) ≡ times n schema + times n others + times n s.listed =
    λ n. let a = times-append n (schema ++ others) s.listed in let b = times-append n schema others in omega (arith, a, b) in
    let there_is : 0 < times 1 schema = rw (pages_split usable pages s.height 1) (let at = here 1 1 (lower_pages usable pages s.height 1) refl in omega arith) in
    record {
      single = λ n. let p = parts n in let o = once n in omega (arith, p, o);
      within = λ n some. within n (let p = parts n in omega (arith, p, some));
      lacks = let p = parts 1 in let o = once 1 in omega (arith, p, o, there_is);
      some = let first = within 1 (let p = parts 1 in omega (arith, p, there_is)) in first.1;
    }

-- page 0 is none of them
pub lacks_none : (count : ℕ) (listed : List ℕ) → AreApart count listed → times 0 listed ≡ 0
lacks_none count listed apart = ⊎_elim
    (λ (none : times 0 listed ≡ 0). none)
    (λ (some : 0 < times 0 listed). let inside = apart.within 0 some in absurd (omega (arith, inside.0)))
    (none_or_some (times 0 listed))

-- so are these numbers in another order
pub apart_again : (count : ℕ) (free listed : List ℕ) → AreSame free listed → AreApart count listed → AreApart count free
apart_again count free listed same apart = record {
  single = λ n. let e = same n in let o = apart.single n in omega (arith, e, o);
  within = λ n some. apart.within n (let e = same n in omega (arith, e, some));
  lacks = same 1 ∙ apart.lacks;
  some = apart.some;
}

pub small_count : (count size : ℕ) → 512 ≤ size → count * size ≤ 2 ^ 30 → count ≤ 2 ^ 30
small_count count size low few =
    let e : count ≤ count * size = le-mul_of_pos_right count (omega (arith, low)) in omega (arith, e, few)

pub all_small : (count : ℕ) (free : List ℕ) → count ≤ 2 ^ 30 → AreApart count free → Each IsSmall free
all_small count free few apart = each_from_holds IsSmall free (λ n some. let in_it = apart.within n some in omega (arith, in_it.1, few))

pub all_some : (count : ℕ) (free : List ℕ) → AreApart count free → Each (λ n. 0 < n) free
all_some count free apart = each_from_holds (λ n. 0 < n) free (λ n some. let in_it = apart.within n some in omega (arith, in_it.0))

pub few_free : (count : ℕ) (free : List ℕ) → AreApart count free → length free ≤ count + 1
few_free count free apart = few_single free (count + 1) apart.single (λ n some. let in_it = apart.within n some in omega (arith, in_it.1))

-- the sizes of pages
pub record Sizes (usable : ℕ) (header : Header) : Type 0 where
  pub low : 480 ≤ usable
  pub high : usable ≤ 65536

pub sizes_of : (usable : ℕ) (header : Header) → IsSized header → usable_in header ≡ usable → Sizes usable header
sizes_of usable header sized used = record { low = omega (arith, used, sized.usable); high = omega (arith, used, sized.high) }

pub laid_is : (cs : List Change) (pages : Paging) (n : ℕ) (bytes : List ℕ) → changed cs n ≡ Some bytes → lay (changed cs) pages n ≡ bytes
laid_is cs pages n bytes is = ap (λ (o : Option (List ℕ)). unwrap_or o (pages n)) is

pub not_laid : (cs : List Change) (pages : Paging) (n : ℕ) → changed cs n ≡ None → lay (changed cs) pages n ≡ pages n
not_laid cs pages n is = ap (λ (o : Option (List ℕ)). unwrap_or o (pages n)) is

-- changed pages are page 1 and some others, each once
pub changes_single : (ns all : List ℕ) → ((n : ℕ) → times n ns ≤ times n (1 ∷ all)) → AreSingle all → Lacks all 1 → AreSingle ns
changes_single ns all few single lacks n = ⊎_elim
    (λ (e : n ≡ 1). let at = here n 1 all e in let f = few n in let none : times n all ≡ 0 = ap (λ (m : ℕ). times m all) e ∙ lacks in omega (arith, at, f, none))
    (λ (e : n ≢ 1). let at = there n 1 all e in let f = few n in let o = single n in omega (arith, at, f, o))
    (same_or_not n 1)

fewer : (u n : ℕ) → n ≤ room u → n ≤ u / 4 - 2
unfolding room
fewer u n few = omega (arith, few)

less : (u n : ℕ) → u ≤ 65536 → n ≤ room u → n < 2 ^ 32
unfolding room
less u n up few = omega (arith, up, few)

-- trunks that are laid say what they are to say
pub trunks_are : (usable : ℕ) (cs : List Change) (old pages : Paging) (ts : List Trunk) → usable ≤ 65536
    → EachTrunk (λ t. changed cs t.page ≡ Some (trunk_bytes usable t (old t.page))) ts → EachTrunk (Fits (room usable)) ts
    → EachTrunk (IsTrunk usable (lay (changed cs) pages)) ts
trunks_are usable cs old pages [] high laid fits = tt
trunks_are usable cs old pages (t ∷ ts) high laid fits = (
  trunk_is usable (lay (changed cs) pages) t (old t.page) (laid_is cs pages t.page (trunk_bytes usable t (old t.page)) laid.0) fits.0.next fits.0.leaves
      (fewer usable (length t.leaves) fits.0.few) (less usable (length t.leaves) high fits.0.few),
  trunks_are usable cs old pages ts high laid.1 fits.1,
)

-- page 1 with its new front has a legal header with a valid page count
pub record FrontCounts (size usable count : ℕ) (new : Paging) : Type 0 where
  pub header : Header
  pub front : HasHeader count new header
  pub size_is : header.page_size ≡ size
  pub used : usable_in header ≡ usable

pub front_counts : (size usable count count' first free : ℕ) (pages new : Paging) (header : Header) → header_of (take 100 (pages 1)) ≡ Ok header → header.page_size ≡ size
    → usable_in header ≡ usable → 100 ≤ length (pages 1) → FrontIs count' first free (pages 1) (new 1) → 1 ≤ count' → count' * size ≤ 2 ^ 30
    → FrontCounts size usable count' new
front_counts size usable count count' first free pages new header legal size_is used long is some few =
    let again = legal_again (pages 1) (new 1) header legal long is.alike.long is.like in
    let now = fields (take 100 (new 1)) in
    let number : u32_at (take 100 (new 1)) 28 ≡ count' = u32_at-take 100 28 (new 1) (omega arith) ∙ is.count_is in
    let copied : u32_at (take 100 (new 1)) 24 ≡ u32_at (take 100 (new 1)) 92 =
    u32_at-take 100 24 (new 1) (omega arith) ∙ is.copied ∙ sym (u32_at-take 100 92 (new 1) (omega arith)) in
    let same : now.page_size ≡ size = again.size ∙ size_is in
    record {
      header = now;
      front = record {
        legal = again.legal;
        valid = parts_valid (u32_at (take 100 (new 1)) 28) (u32_at (take 100 (new 1)) 24) (u32_at (take 100 (new 1)) 92) (omega (arith, number, some)) copied;
        number = number;
        few = rw same few;
      };
      size_is = same;
      used = rw (again.size, again.reserved) used;
    }
