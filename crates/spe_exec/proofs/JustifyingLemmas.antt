-- How the replies of a transaction stay justified.
use Rattle.std.proofs.Common.{◌≡◌, ℕ, false, List, [], ◌∷◌, ◌++◌, take, Option, Some, None, Ok, refl, sym, ap, ◌∙◌, arith, subst}
use Rattle.std.proofs.Math.Path.{fun_ext}
use Rattle.std.specs.List.{find}
use Rattle.spe_model.specs.declared.catalog.Entry.{Entry}
use Rattle.spe_model.specs.declared.header.Header.{Header}
use Rattle.spe_model.specs.declared.header.HeaderFault.{HeaderFault}
use Rattle.spe_model.specs.declared.reply.Refusal.{Refusal}
use Rattle.spe_model.specs.declared.reply.Reply.{Reply}
use Rattle.spe_model.specs.declared.statement.Statement.{Statement}
use Rattle.spe_model.specs.declared.table.TableDef.{TableDef}
use Rattle.spe_model.specs.declared.transaction.TxKind.{TxKind}
use Rattle.spe_model.specs.Big.{u32_at}
use Rattle.spe_model.specs.Database.{Database, Row}
use Rattle.spe_model.specs.Header.{header_of, faults, has_fault, fields, unless}
use Rattle.spe_model.specs.Justified.{Opening, ServedSince}
use Rattle.spe_model.specs.Meaning.{meaning, answered, accepted, replies_from, result_from}
use Rattle.spe_model.specs.Paging.{Paging, lay}
use Rattle.spe_model.specs.Refusals.{refusal_of}
use Rattle.spe_model.specs.Rows.{table_named}
use Rattle.spe_model.specs.Schema.{catalog_of, is_index_page}
use Rattle.spe_model.specs.Standing.{StandsFor}
use Rattle.spe_model.specs.Statement.{table_name, is_write}
use Rattle.spe_space.specs.declared.pages.Pages.{Ghosts}
use Rattle.spe_space.proofs.FrontLemmas.{u32_at-take}
use Rattle.spe_exec.specs.Run.{StandsWith}
use Rattle.spe_exec.specs.Justifying.{JustifiedNone, JustifiedMore, JustifiedHere, JustifiedRun}

-- a statement that reads leaves the database
pub reads_leave : (kind : TxKind) (db : Database) (s : Statement) → is_write s ≡ false → (meaning kind db s).0 ≡ db
reads_leave kind db s h = go (refusal_of kind db s)
  where
    found : (named : Option (TableDef × List Row)) → (accepted named db s).0 ≡ db
    found None = refl
    found (Some t) = rw h refl

    go : (refusal : Option Refusal) → (answered refusal db s).0 ≡ db
    go (Some refusal) = refl
    go None = found (table_named (table_name s) db)

-- one statement after the others
pub replies_more : (kind : TxKind) (db : Database) (ss : List Statement) (s : Statement)
    → replies_from kind db (ss ++ s ∷ []) ≡ replies_from kind db ss ++ (meaning kind (result_from kind db ss) s).1 ∷ []
replies_more kind db [] s = refl
replies_more kind db (x ∷ xs) s = ap (λ (rs : List Reply). (meaning kind db x).1 ∷ rs) (replies_more kind (meaning kind db x).0 xs s)

pub result_more : (kind : TxKind) (db : Database) (ss : List Statement) (s : Statement) → result_from kind db (ss ++ s ∷ []) ≡ (meaning kind (result_from kind db ss) s).0
result_more kind db [] s = refl
result_more kind db (x ∷ xs) s = result_more kind (meaning kind db x).0 xs s

-- the pages stand for the database, with the catalog of the opening
stands_with : (usable other count : ℕ) (pages : Paging) (catalog : List Entry) (db : Database) (stands : StandsFor usable count pages db) → usable ≡ other
    → catalog_of (is_index_page pages) stands.rows ≡ catalog → StandsWith other count pages catalog db
stands_with usable other count pages catalog db stands e c =
    subst (λ (u : ℕ). StandsWith u count pages catalog db) e (record { stands = stands; catalog_is = sym c })

pub served_with : (opening : Opening) (count used : ℕ) (pages : Paging) (db : Database) → used ≡ opening.usable → ServedSince opening count pages db → StandsWith used count pages opening.catalog db
served_with opening count used pages db u since =
    stands_with _ used count pages opening.catalog db since.served.stands (since.usable ∙ sym u) since.catalog

-- the number of pages of a legal header stands at 28
header_count : (bytes : List ℕ) (header : Header) → header_of bytes ≡ Ok header → header.pages ≡ u32_at bytes 28
header_count bytes header e = go (find (has_fault bytes) faults) e
  where
    go : (fault : Option HeaderFault) → unless fault (fields bytes) ≡ Ok header → header.pages ≡ u32_at bytes 28
    go None h = let k : fields bytes ≡ header = cc in ap (λ (x : Header). x.pages) (sym k)
    go (Some f) h = absurd cc

named_count : (opening : Opening) (count : ℕ) (pages : Paging) (db : Database) → ServedSince opening count pages db → count ≡ u32_at (pages 1) 28
named_count opening count pages db since =
    sym since.served.front.number ∙ header_count (take 100 (pages 1)) since.served.header since.served.front.legal ∙ u32_at-take 100 28 (pages 1) (omega arith)

pub none : JustifiedNone
none opening kind seen written empty = record {
  replied = λ count pages db since agrees. refl;
  left = λ count pages db since agrees.
      let bare : pages ≡ lay written pages = fun_ext (λ n. rw (empty n) refl) in
      subst (λ (p : Paging). ServedSince opening (u32_at (p 1) 28) p db) bare
      (subst (λ (c : ℕ). ServedSince opening c pages db) (named_count opening count pages db since) since);
}

pub more : {P : Type 0} (g : Ghosts P) → JustifiedMore g
more g opening asked early late s reply used reads justified gives kept = record {
  replied = λ count pages db since agrees.
      let after = justified.left count pages db since (kept.earlier pages agrees) in
      let given : reply ≡ (meaning asked.kind (result_from asked.kind db asked.statements) s).1 =
      gives pages agrees _ (result_from asked.kind db asked.statements) (served_with opening _ (g.used early) _ _ used after) in
      rw (replies_more asked.kind db asked.statements s, ← given, ← justified.replied count pages db since (kept.earlier pages agrees)) refl;
  left = λ count pages db since agrees.
      let after = justified.left count pages db since (kept.earlier pages agrees) in
      rw (kept.laid, result_more asked.kind db asked.statements s, reads_leave asked.kind (result_from asked.kind db asked.statements) s reads) after;
}

pub here : {P : Type 0} (g : Ghosts P) → JustifiedHere g
here g opening asked s justified = record {
  replied = justified.replied;
  left = λ count pages db since agrees. (justified.served count pages db since agrees).since;
}

pub run_more : {P : Type 0} (g : Ghosts P) → JustifiedRun g
run_more g opening asked early late s reply lists justified means kept = record {
  replied = λ count pages db since agrees.
      let before = kept.earlier pages agrees in
      let meant = means opening pages (result_from asked.kind db asked.statements) agrees lists (justified.served count pages db since before) refl in
      rw (replies_more asked.kind db asked.statements s, ← meant.reply_is, ← justified.replied count pages db since before) refl;
  served = λ count pages db since agrees.
      let meant = means opening pages (result_from asked.kind db asked.statements) agrees lists (justified.served count pages db since (kept.earlier pages agrees)) refl in
      rw (result_more asked.kind db asked.statements s) meant.served;
}
