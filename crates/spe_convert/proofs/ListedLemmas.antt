-- Lists of pages that are some pages by number.
use Rattle.std.proofs.Common.{◌≡◌, ◌∙◌, ℕ, zero, suc, ◌+◌, ◌<◌, ◌≤◌, List, ◌∷◌, take, length, map, sym, ap, refl, arith}
use Rattle.std.proofs.lemmas.List.{length-map}
use Rattle.spe_model.specs.declared.recovery.Recovered.{Recovered}
use Rattle.spe_model.specs.Database.{Database}
use Rattle.spe_model.specs.Header.{header_of}
use Rattle.spe_model.specs.Journal.{numbers_from}
use Rattle.spe_model.specs.Paging.{Paging}
use Rattle.spe_model.specs.Recovery.{pages_to}
use Rattle.spe_model.specs.Schema.{is_index_page}
use Rattle.spe_model.specs.Settled.{page_in}
use Rattle.spe_model.specs.Standing.{IsOneOf}
use Rattle.spe_frame.specs.Times.{AreSame, times}
use Rattle.spe_convert.specs.Laws.{Counts}
use Rattle.spe_convert.specs.Prepare.{IsCountedFor}
use Rattle.spe_convert.specs.Reading.{usable_of}
use Rattle.spe_convert.proofs.ListLemmas.{numbers_length}
use Rattle.spe_convert.proofs.ShownLemmas.{listed_page, shown, sort_first}

-- two functions that are the same from k on give the same lists
pub map_numbers : {X : Type 0} (f g : ℕ → X) (k count : ℕ) → ((n : ℕ) → k ≤ n → n < k + count → f n ≡ g n) → map f (numbers_from k count) ≡ map g (numbers_from k count)
map_numbers f g k zero same = refl
map_numbers {X = X} f g k (suc count) same =
    ap (λ (x : X). x ∷ map f (numbers_from (k + 1) count)) (same k (omega arith) (omega arith))
    ∙ ap (λ (xs : List X). g k ∷ xs) (map_numbers f g (k + 1) count (λ n low high. same n (omega (arith, low)) (omega (arith, high))))

pub list_long : (f : Paging) (count : ℕ) → length (map f (pages_to count)) ≡ count
list_long f count = length-map (pages_to count) f ∙ numbers_length 1 count

-- the list has the page at each number
pub list_page : (f : Paging) (count : ℕ) (list : List (List ℕ)) → list ≡ map f (pages_to count) → (n : ℕ) → IsOneOf count n → page_in list n ≡ f n
list_page f count list is n inside =
    ap (λ (ps : List (List ℕ)). page_in ps n) is ∙ listed_page f count n inside.0 inside.1 (list_long f count)

pub record ListedFor (found : Recovered) (count : ℕ) (list : List (List ℕ)) (db : Database) (free : List ℕ) : Type 0 where
  pub is : IsCountedFor found count list db
  pub free_are : AreSame free is.stands.listed

-- pages that stand by number do so in a list
pub listed_for : (found : Recovered) (count : ℕ) (f : Paging) (list : List (List ℕ)) (db : Database) (free : List ℕ) → 1 ≤ count → list ≡ map f (pages_to count)
    → take 24 (f 1) ≡ take 24 (f 0) → Counts found.page_size (usable_of found) count f db free → ListedFor found count list db free
listed_for found count f list db free some is front counts =
    let first : page_in list 1 ≡ f 1 = list_page f count list is 1 (omega arith, some) in
    let sort : is_index_page f 0 ≡ is_index_page (page_in list) 0 = sort_first f list (ap (take 24) first ∙ front) in
    let after = shown (usable_of found) count f (page_in list) db counts.stands (list_page f count list is) sort in
    record {
      is = record {
        number = ap length is ∙ list_long f count;
        header = counts.header;
        front = record {
          legal = ap (λ (b : List ℕ). header_of (take 100 b)) first ∙ counts.front.legal;
          valid = counts.front.valid;
          number = counts.front.number;
          few = counts.front.few;
        };
        size = counts.size_is;
        used = counts.used;
        stands = after.0;
      };
      free_are = λ n. counts.free_are n ∙ ap (times n) (sym after.1);
    }
