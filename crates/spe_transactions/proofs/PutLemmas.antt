-- The bytes of a page are written to the database, whole or torn.
use Rattle.std.proofs.Common.{◌≡◌, ◌≢◌, ℕ, ◌+◌, ◌-◌, ◌*◌, ◌<◌, ◌≤◌, min, List, length, take, drop, sym, ap, ◌∙◌, arith}
use Rattle.std.specs.Prelude.{◌⊎◌}
use Rattle.std.proofs.lemmas.List.{length-drop, length-take}
use Rattle.spe_model.specs.declared.file.FileNo.TheVariants.{Database}
use Rattle.spe_model.specs.Content.{Content, bytes_of, with_file}
use Rattle.spe_model.specs.Covered.{IsSafe, IsSaved, IsSpare, LieWithin, Recovers, first_place}
use Rattle.spe_model.specs.Recovery.{file_page, file_page_size, journal_of}
use Rattle.spe_model.specs.Rollback.{write_of}
use Rattle.spe_model.specs.Trace.{Operation, laid_over, made_by}
use Rattle.spe_model.specs.Trace.Operation.{Write}
use Rattle.spe_crash.proofs.FileLemmas.{IsLaid, database_leaves, laid}
use Rattle.spe_crash.proofs.FrontLemmas.{IsReadable, readable}
use Rattle.spe_crash.proofs.PagesLemmas.{opened}
use Rattle.spe_crash.proofs.PlaceLemmas.{page_end}
use Rattle.spe_crash.proofs.WriteLemmas.{page_kept, safe_keeps}
use Rattle.spe_transactions.proofs.FilesLemmas.{body_of, body_some, body_there, body_within, database_set, files_stay, write_is, written_some}
use Rattle.spe_transactions.proofs.PageLemmas.{size_is}

-- what the pages of a file have to do with those of another, of which one is written
pub record IsPageWritten (content now : Content) (pages : List (List ℕ)) (p : ℕ) (bytes : List ℕ) : Type 0 where
  pub files : length now ≡ length content
  pub recovers : Recovers now pages
  pub journals : (id : ℕ) → journal_of now id ≡ journal_of content id
  pub size : file_page_size now ≡ file_page_size content
  pub there : file_page now p ≡ bytes
  pub others : (q : ℕ) → 1 ≤ q → q ≢ p → q * file_page_size content ≤ length (bytes_of content Database) → file_page now q ≡ file_page content q

-- a page that may be written
pub record IsWritable (content : Content) (pages : List (List ℕ)) (p : ℕ) (bytes : List ℕ) : Type 0 where
  pub files : length content ≡ 17
  pub recovers : Recovers content pages
  pub numbered : 1 ≤ p
  pub sized : length bytes ≡ file_page_size content
  pub front : p ≡ 1 → take 24 bytes ≡ take 24 (bytes_of content Database)
  pub safe : IsSaved content pages p ⊎ IsSpare content pages p

-- the page size of a content that is recovered
pub page_range : (content : Content) (pages : List (List ℕ)) → Recovers content pages → IsReadable (bytes_of content Database)
page_range content pages recovers = readable content (opened content pages recovers).front

pub torn_recovers : (content : Content) (pages : List (List ℕ)) (p n : ℕ) (bytes : List ℕ) → IsWritable content pages p bytes
    → Recovers (made_by (Write Database (first_place (file_page_size content) p) (take n (body_of p bytes))) content) pages
torn_recovers content pages p n bytes w =
    let read : IsReadable (bytes_of content Database) = page_range content pages w.recovers in
    let body = body_of p bytes in
    let short : length (take n body) ≤ length body = omega (arith, length-take n body) in
    let safe : IsSafe content (first_place (file_page_size content) p) (length (take n body)) = record {
      pages = pages;
      recovers = w.recovers;
      page = p;
      within = body_within (file_page_size content) p (length (take n body)) bytes read.low w.numbered w.sized short;
      safe = w.safe;
    } in
    safe_keeps content (first_place (file_page_size content) p) (take n body) safe ∙ w.recovers

pub page_written : (content : Content) (pages : List (List ℕ)) (p : ℕ) (bytes : List ℕ) → IsWritable content pages p bytes
    → IsPageWritten content (made_by (write_of (file_page_size content) (record { page = p; content = bytes })) content) pages p bytes
page_written content pages p bytes w =
    let page_size = file_page_size content in
    let old = bytes_of content Database in
    let body = body_of p bytes in
    let place = first_place page_size p in
    let now = made_by (write_of page_size (record { page = p; content = bytes })) content in
    let read : IsReadable old = page_range content pages w.recovers in
    let whole : now ≡ made_by (Write Database place body) content = ap (λ (o : Operation). made_by o content) (write_is page_size p bytes) in
    let is : now ≡ with_file content Database (laid_over old place body) = whole ∙ written_some Database place body content (body_some page_size p bytes read.low w.sized) in
    let new : bytes_of now Database ≡ laid_over old place body = ap (λ (c : Content). bytes_of c Database) is ∙ database_set content (laid_over old place body) w.files in
    let within : LieWithin page_size p place (length body) = body_within page_size p (length body) bytes read.low w.numbered w.sized (omega arith) in
    let safe : IsSafe content place (length body) = record { pages = pages; recovers = w.recovers; page = p; within = within; safe = w.safe } in
    let recovers : Recovers now pages = rw whole (safe_keeps content place body safe ∙ w.recovers) in
    let size : file_page_size now ≡ page_size = size_is now pages recovers ∙ sym (size_is content pages w.recovers) in
    let l : IsLaid old (bytes_of now Database) place (length body) = rw new (laid old place body) in
    record {
      files = files_stay (write_of page_size (record { page = p; content = bytes })) content;
      recovers = recovers;
      journals = λ id. ap (λ (c : Content). journal_of c id) is ∙ database_leaves content (laid_over old place body) id;
      size = size;
      there =
          ap (λ (n : ℕ). take n (drop ((p - 1) * n) (bytes_of now Database))) size
          ∙ ap (λ (file : List ℕ). take page_size (drop ((p - 1) * page_size) file)) new
          ∙ body_there page_size p old bytes read.low (omega (arith, read.long)) w.sized w.front;
      others = λ q low other end.
          ap (λ (n : ℕ). take n (drop ((q - 1) * n) (bytes_of now Database))) size
          ∙ (page_kept page_size old (bytes_of now Database) place (length body) p q l within low other end).same;
    }

-- a page of the file that has all its bytes ends within the file
pub ends_within : (content : Content) (pages : List (List ℕ)) (q : ℕ) → Recovers content pages → 1 ≤ q → length (file_page content q) ≡ file_page_size content → q * file_page_size content ≤ length (bytes_of content Database)
ends_within content pages q recovers low size =
    let page_size = file_page_size content in
    let file = bytes_of content Database in
    let read : IsReadable file = page_range content pages recovers in
    let end : (q - 1) * page_size + page_size ≡ q * page_size = page_end q page_size low in
    let long : length (file_page content q) ≡ min page_size (length file - (q - 1) * page_size) = length-take page_size (drop ((q - 1) * page_size) file) ∙ ap (min page_size) (length-drop ((q - 1) * page_size) file) in
    by_sizes page_size (length file) ((q - 1) * page_size) (q * page_size) (omega (arith, read.low)) end (sym long ∙ size)
  where
    by_sizes : (size long start end : ℕ) → 0 < size → start + size ≡ end → min size (long - start) ≡ size → end ≤ long
    by_sizes size long start end some is fits = omega arith
