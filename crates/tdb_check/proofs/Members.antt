-- What the bytes that begin with a record, and its tailer, say of the record itself.
use Rattle.std.proofs.Common.{◌≡◌, ℕ, ◌+◌, false, ◌≤◌, List, length, take, drop, None, refl, sym, ◌∙◌, ap, subst, arith}
use Rattle.std.specs.Prelude.{◌%◌}
use Rattle.tdb_words.specs.declared.record.Rec.{Rec}
use Rattle.tdb_words.specs.declared.record.TheConstants.{USED}
use Rattle.tdb_words.specs.declared.what.What.TheVariants.{BadRecord, Tailer, WrongHash}
use Rattle.tdb_words.specs.Word.{word}
use Rattle.tdb_words.specs.Hash.{h_of, h_jenkins}
use Rattle.tdb_words.specs.Record.{rec_at}
use Rattle.tdb_space.specs.Form.{Form, data_start}
use Rattle.tdb_space.specs.Record.{magic_of, rec_len_of}
use Rattle.tdb_space.specs.FirstFault.{ListKind as Kind, chain_number, free_list, is_bad, has_wrong_tailer, is_misfiled}
use Rattle.tdb_space.proofs.FirstFault.Cleared.{none_parts, stands_to, same_to, good_from, filed_from}
use Rattle.tdb_check.specs.declared.list_kind.ListKind.{ListKind}
use Rattle.tdb_check.specs.declared.list_kind.ListKind.TheVariants.{Chain, Free}
use Rattle.tdb_check.specs.declared.next_record.Member.{Member}
use Rattle.tdb_check.specs.declared.next_record.Filing.{Filing}
use Rattle.tdb_check.specs.Seen.{kind_of, own_fault, is_bad_header, is_misfiled_header}
use Rattle.tdb_check.specs.InSequence.{IsOf, StandsIn, IsAmong, IsMemberIn, MemberAt}
use Rattle.tdb_check.proofs.Judged.{header_seen, good_found}
use Rattle.tdb_check.proofs.Windows.{window_bytes}

-- a record whose header isn't bad and whose tailer is right, and which is filed where it is used, stands in its list
pub stands_in : (f : Form) (list : ListKind) (img : List ℕ) (at : ℕ) → IsAmong f.chains list → IsOf (kind_of list) (magic_of f.order img at)
    → at % 4 ≡ 0 → data_start f ≤ at → at + 24 ≤ length img → is_bad f (kind_of list) img at ≡ false → has_wrong_tailer f img at ≡ false
    → (magic_of f.order img at ≡ USED → is_misfiled f (kind_of list) img at ≡ false) → StandsIn f (kind_of list) img at
stands_in f (Chain j) img at among magic aligned above within good tailed placed =
    let g = good_from f (chain_number j) img at (stands_to f img at aligned above within) good tailed in
    record { whole = g.whole; magic = magic; filed = (among, λ used. filed_from f img j at g.fits (placed used) used) }
stands_in f Free img at among magic aligned above within good tailed placed =
    record { whole = (good_from f free_list img at (stands_to f img at aligned above within) good tailed).whole; magic = magic; filed = tt }

-- a record that nothing is wrong with by itself isn't misfiled
placed_from : (f : Form) (kind : Kind) (img : List ℕ) (at : ℕ) → own_fault f kind img at ≡ None → is_misfiled f kind img at ≡ false
placed_from f kind img at none =
    let rest = none_parts (is_bad f kind img at) (BadRecord, at) _ none in
    (none_parts (is_misfiled f kind img at) (WrongHash, at) None (none_parts (has_wrong_tailer f img at) (Tailer, at) _ rest.1).1).0

-- the member by the bytes that begin with it, with the right tailer, stands in its list
pub member_at : (f : Form) (img bytes : List ℕ) (at len tailer : ℕ) (filing : Filing) (member : Member) → filing.order ≡ f.order → filing.hash ≡ f.hash → filing.chains ≡ f.chains
    → length img ≡ len → at + 24 ≤ len → 24 ≤ length bytes → bytes ≡ take (length bytes) (drop at img) → IsMemberIn filing bytes at len member
    → tailer ≡ word f.order img (at + 20 + member.found.header.rec_len) → tailer ≡ 24 + member.found.header.rec_len
    → at % 4 ≡ 0 → data_start f ≤ at → MemberAt f img at member
member_at f img bytes at len tailer filing member order hash chains long within whole shows is t same aligned above =
    let r = member.found.header in
    let kind = kind_of member.list in
    let header : r ≡ rec_at f.order img at = is.header ∙ ap (λ o. rec_at o bytes 0) order ∙ header_seen f.order img bytes at (length bytes) whole shows in
    let used : magic_of f.order img at ≡ USED → r.magic ≡ USED = λ u. ap (λ (x : Rec). x.magic) header ∙ u in
    let good : is_bad f kind img at ≡ false = (λ j. is_bad_header kind (sym header j) at (long j)) ∙ is.good in
    let tailed : has_wrong_tailer f img at ≡ false =
    same_to (word f.order img (at + 20 + rec_len_of f.order img at)) (24 + rec_len_of f.order img at)
    (ap (λ (x : Rec). word f.order img (at + 20 + x.rec_len)) (sym header) ∙ sym t ∙ same ∙ ap (λ (x : Rec). 24 + x.rec_len) header) in
    let key : (u : r.magic ≡ USED) → take r.key_len (drop 24 bytes) ≡ take r.key_len (drop (at + 24) img) = λ u. window_bytes img bytes at 24 r.key_len (is.key u).within shows in
    let placed : magic_of f.order img at ≡ USED → is_misfiled f kind img at ≡ false = λ u.
    let own = h_of f.hash (take r.key_len (drop (at + 24) img)) in
    let right : is_misfiled_header kind r own f.chains ≡ false = (λ j. is_misfiled_header kind r (h_of (sym hash j) (sym (key (used u)) j)) (sym chains j)) ∙ (is.key (used u)).filed in
    placed_from f kind img at (good_found f kind img at len r header long tailer own is.good t same refl (used u) right) in
    record {
      stands = stands_in f member.list img at (subst (λ n. IsAmong n member.list) chains is.among) (subst (λ (x : Rec). IsOf kind x.magic) header is.magic) aligned above (omega (arith, long, within)) good tailed placed;
      found = record {
        header = header;
        mark = λ u. (is.key (used u)).mark ∙ ap h_jenkins (key (used u)) ∙ ap (λ (x : Rec). h_jenkins (take x.key_len (drop (at + 24) img))) header;
      };
    }
