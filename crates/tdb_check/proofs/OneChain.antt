-- A chain that is followed record by record.
use Rattle.std.proofs.Common.{◌≡◌, ◌≢◌, ℕ, ◌+◌, ◌<◌, ◌≤◌, List, [], ◌∷◌, ◌++◌, length, map, eqb, Option, Some, append_assoc, append-nil, length-append, refl, sym, ◌∙◌, ap, subst, inl, inr, arith}
use Rattle.std.specs.Prelude.{◌==◌, if◌then◌else◌}
use Rattle.std.specs.List.{list_any, IsDistinct}
use Rattle.std.proofs.lemmas.Bool.{cases_eq, eq-eqb, ne_eqb, or_cases, false≢true}
use Rattle.std.proofs.lemmas.List.Folds.{list_any-append}
use Rattle.std.proofs.lemmas.List.{map-append}
use Rattle.tdb_words.specs.declared.record.Rec.{Rec}
use Rattle.tdb_words.specs.declared.record.TheConstants.{USED}
use Rattle.tdb_words.specs.declared.word.Order.{Order}
use Rattle.tdb_words.specs.Word.{word}
use Rattle.tdb_words.specs.Record.{rec_at}
use Rattle.tdb_space.specs.Form.{Form, chain_head}
use Rattle.tdb_space.specs.Record.{IsChained, magic_of}
use Rattle.tdb_space.specs.Chain.{chain_of, Linked, Member}
use Rattle.tdb_space.specs.Pairs.{pairs, pair_of, same_key}
use Rattle.tdb_space.specs.Accepted.{AllFiled, KeysDiffer}
use Rattle.tdb_space.specs.Extents.{Extent as Held, times, extents, extent_at}
use Rattle.tdb_space.specs.FirstFault.{Fault, chain_number, Passed, FirstInList, record_fault}
use Rattle.tdb_space.proofs.Chain.Walks.{walk_meets, member_cases, member_first, member_other}
use Rattle.tdb_space.proofs.FirstFault.Cleared.{clear_from, good_from}
use Rattle.tdb_space.proofs.Extents.Counts.{times-append}
use Rattle.tdb_space.proofs.Chain.Members.{member_held}
use Rattle.tdb_space.proofs.Pairs.Maps.{pairs_other}
use Rattle.tdb_space.proofs.FirstFault.Passed.{AllBelong, passed_linked, passed_filed, sound_from}
use Rattle.tdb_space.proofs.Pairs.Listed.{pairs-append, pairs-push}
use Rattle.tdb_check.specs.declared.extent.Extent.{Extent}
use Rattle.tdb_check.specs.declared.chain.Notes.{Notes}
use Rattle.tdb_check.specs.Extent.{extent_seen, extents_seen}
use Rattle.tdb_check.specs.Followed.{ChainFollowed}
use Rattle.tdb_check.specs.declared.tails.Tails.{Tails}
use Rattle.tdb_check.specs.Tails.{least_from, KnownTail, TailsOf, EndsAt, first_or, LeadsTo, Closing}
use Rattle.tdb_check.specs.Chains.{Shows}
use Rattle.tdb_check.specs.Notes.{DeadEnd, NotesOf, RecordPassed, Walking}
use Rattle.tdb_check.specs.Walked.{fault_but_twin}
use Rattle.tdb_check.proofs.Showing.{shows_more, first_held, shows_least}
use Rattle.tdb_check.proofs.Walked.{walked_more, walked_short, walked_passed, fault_same}
use Rattle.tdb_check.proofs.Following.{extents_more}

-- a chain's records up to a next word 0 are those of the computed chain
chain_is : (f : Form) (j : ℕ) (img xs : List ℕ) (last : ℕ) → Passed f (chain_number j) img [] (chain_head j) xs last → word f.order img last ≡ 0 → chain_of f img j ≡ xs
chain_is f j img xs last p ends = walk_meets f IsChained img (word f.order img (chain_head j)) xs (passed_linked f (chain_number j) img [] (chain_head j) xs last p ends)

-- a head of 0 has no record
pub chain_none : (f : Form) (j : ℕ) (img : List ℕ) (es : List Extent) → word f.order img (chain_head j) ≡ 0 → ChainFollowed f j img es es 0
chain_none f j img es ends =
    let none : chain_of f img j ≡ [] = chain_is f j img [] (chain_head j) refl ends in
    record {
      sound = ([], chain_head j, refl, ends);
      shows = λ held s. subst (Shows (extents_seen es)) (sym (append-nil held) ∙ ap (λ xs. held ++ extents f.order img xs) (sym none)) s;
      used = ap (λ xs. length (pairs f.order img xs)) (sym none);
    }

-- known tails stay known where more is put down
pub tails_grown : (f : Form) (img : List ℕ) (seen more : List Held) (t : Tails) → ((i : ℕ) → times seen i ≤ times more i) → TailsOf f img seen t → TailsOf f img more t
tails_grown f img seen more t grown tails at least is =
    let k = tails at least is in
    record { xs = k.xs; linked = k.linked; unused = k.unused; member = k.member; extent = k.extent; low = k.low; held = omega (arith, k.held, grown least.off) }

pub tails_put : (f : Form) (img : List ℕ) (es next_extents : List Extent) (e : Extent) (t : Tails) → next_extents ≡ es ++ e ∷ [] → TailsOf f img (extents_seen es) t → TailsOf f img (extents_seen next_extents) t
tails_put f img es next_extents e t put tails =
    let all : extents_seen next_extents ≡ extents_seen es ++ extent_seen e ∷ [] = ap extents_seen put ∙ map-append extent_seen es (e ∷ []) in
    tails_grown f img (extents_seen es) (extents_seen next_extents) t (λ i. omega (arith, ap (λ hs. times hs i) all, times-append (extents_seen es) (extent_seen e ∷ []) i)) tails

member_behind : (z : ℕ) (xs ys : List ℕ) → Member z ys → Member z (xs ++ ys)
member_behind z [] ys m = m
member_behind z (x ∷ xs) ys m = member_other z x (xs ++ ys) (member_behind z xs ys m)

-- the last records of those that were passed, where they are dead, follow one another
passed_leads : (f : Form) (j : ℕ) (img earlier : List ℕ) (head : ℕ) (before tail : List ℕ) (place at : ℕ) → Passed f (chain_number j) img earlier head (before ++ tail) place → word f.order img place ≡ at → ((z : ℕ) → Member z tail → magic_of f.order img z ≢ USED) → LeadsTo f img tail at
passed_leads f j img earlier head [] [] place at p next unused = tt
passed_leads f j img earlier head [] (x ∷ xs) place at p next unused =
    let c = clear_from f (chain_number j) img earlier head x p.2 in
    let g = good_from f (chain_number j) img x c.stands c.good c.tailed in (
      record { whole = g.whole; chained = g.marked; unused = unused x (member_first x xs) },
      leads_first xs p.3,
      passed_leads f j img (earlier ++ x ∷ []) x [] xs place at p.3 next (λ z m. unused z (member_other z x xs m)),
    )
  where
    leads_first : (ys : List ℕ) → Passed f (chain_number j) img (earlier ++ x ∷ []) x ys place → word f.order img x ≡ first_or at ys
    leads_first [] q = ap (word f.order img) (sym q) ∙ next
    leads_first (y ∷ ys) q = q.0
passed_leads f j img earlier head (b ∷ before) tail place at p next unused = passed_leads f j img (earlier ++ b ∷ []) b before tail place at p.3 next unused

-- records that were passed, and a known tail behind them, are linked
passed_then : (f : Form) (j : ℕ) (img earlier : List ℕ) (place : ℕ) (xs : List ℕ) (last : ℕ) (ys : List ℕ) → Passed f (chain_number j) img earlier place xs last → Linked f IsChained img (word f.order img last) ys → Linked f IsChained img (word f.order img place) (xs ++ ys)
passed_then f j img earlier place [] last ys p l = subst (λ q. Linked f IsChained img (word f.order img q) ys) p l
passed_then f j img earlier place (x ∷ xs) last ys p l =
    let c = clear_from f (chain_number j) img earlier place x p.2 in
    let g = good_from f (chain_number j) img x c.stands c.good c.tailed in
    (p.0, g.whole, g.marked, passed_then f j img (earlier ++ x ∷ []) x xs last ys p.3 l)

-- dead records have no pair, and belong to any chain
unused_pairs : (o : Order) (img xs ys : List ℕ) → ((z : ℕ) → Member z ys → magic_of o img z ≢ USED) → pairs o img (xs ++ ys) ≡ pairs o img xs
unused_pairs o img xs ys unused = pairs-append o img xs ys ∙ ap (λ ps. pairs o img xs ++ ps) (none ys unused) ∙ append-nil (pairs o img xs)
  where
    none : (ys : List ℕ) → ((z : ℕ) → Member z ys → magic_of o img z ≢ USED) → pairs o img ys ≡ []
    none [] apart = refl
    none (y ∷ ys) apart = pairs_other o img y ys (apart y (member_first y ys)) ∙ none ys (λ z m. apart z (member_other z y ys m))

belong_then : (f : Form) (j : ℕ) (img xs ys : List ℕ) → AllFiled f img j xs → ((z : ℕ) → Member z ys → magic_of f.order img z ≢ USED) → AllBelong f (chain_number j) img (xs ++ ys)
belong_then f j img [] [] filed unused = tt
belong_then f j img [] (y ∷ ys) filed unused = ((λ used. absurd (unused y (member_first y ys) used)), belong_then f j img [] ys filed (λ z m. unused z (member_other z y ys m)))
belong_then f j img (x ∷ xs) ys filed unused = (filed.0, belong_then f j img xs ys filed.1 unused)

extents_then : (o : Order) (img xs ys : List ℕ) → extents o img (xs ++ ys) ≡ extents o img xs ++ extents o img ys
extents_then o img [] ys = refl
extents_then o img (x ∷ xs) ys = ap (λ es. extent_at o img x ∷ es) (extents_then o img xs ys)

-- one more record at the end, used or dead
pub dead_more : (f : Form) (img xs : List ℕ) (at : ℕ) (r : Rec) (dead next_dead : List Extent) → DeadEnd f img xs dead → r ≡ rec_at f.order img at → next_dead ≡ (if r.magic == USED then [] else dead ++ (record { off = at; rec_len = r.rec_len }) ∷ []) → DeadEnd f img (xs ++ at ∷ []) next_dead
dead_more f img xs at r dead next_dead d header put =
    elim (cases_eq r.magic USED) [
      | inl used ↦
          let none : next_dead ≡ [] = put ∙ rw (eq-eqb r.magic USED used) refl in
          record {
            before = xs ++ at ∷ [];
            tail = [];
            parts = sym (append-nil (xs ++ at ∷ []));
            unused = λ z m. absurd (false≢true m);
            shown = ap extents_seen none;
          }
      | inr other ↦
          let more : next_dead ≡ dead ++ (record { off = at; rec_len = r.rec_len }) ∷ [] = put ∙ rw (ne_eqb r.magic USED other) refl in
          record {
            before = d.before;
            tail = d.tail ++ at ∷ [];
            parts = ap (λ zs. zs ++ at ∷ []) d.parts ∙ append_assoc d.before d.tail (at ∷ []);
            unused = λ z m. elim (or_cases (list_any (eqb z) d.tail) (list_any (eqb z) (at ∷ [])) (sym (list_any-append (eqb z) d.tail (at ∷ [])) ∙ m)) [
              | inl before ↦ d.unused z before
              | inr last ↦ elim (member_cases z at [] last) [
                | inl here ↦ (λ used. other (ap (λ (x : Rec). x.magic) header ∙ ap (magic_of f.order img) (sym here) ∙ used))
                | inr none ↦ absurd (false≢true none)
              ]
            ];
            shown = ap extents_seen more ∙ map-append extent_seen dead ((record { off = at; rec_len = r.rec_len }) ∷ [])
                ∙ (λ i. d.shown i ++ (at, 24 + (header i).rec_len) ∷ [])
                ∙ sym (extents_more f.order img d.tail at);
          }
    ]

pub dead_none : (f : Form) (img : List ℕ) → DeadEnd f img [] []
dead_none f img = record { before = []; tail = []; parts = refl; unused = λ z m. absurd (false≢true m); shown = refl }

-- what was walked along so far, in so many turns
pub record ChainWalking (f : Form) (j : ℕ) (img : List ℕ) (notes : Notes) (old new : List Extent) (live turn place at : ℕ) : Type 0 where
  pub so_far : Walking f j img notes old new live place at
  pub count : length so_far.xs ≡ turn

pub walking_start : (f : Form) (j : ℕ) (img : List ℕ) (notes : Notes) (old : List Extent) (first : ℕ) → word f.order img (chain_head j) ≡ first → NotesOf f img [] notes → ChainWalking f j img notes old old 0 0 (chain_head j) first
walking_start f j img notes old first is none = record {
  so_far = record { xs = []; walked = refl; next = is; noted = none; seen = sym (append-nil (extents_seen old)); used = refl };
  count = refl;
}

-- a used record counts for one
abbrev counted : ℕ → ℕ
counted magic = if magic == USED then 1 else 0

-- a used record has one pair
pair_count : (o : Order) (img : List ℕ) (at : ℕ) → length (pair_of o img at) ≡ counted (magic_of o img at)
pair_count o img at =
    elim (cases_eq (magic_of o img at) USED) [
      | inl used ↦ rw (eq-eqb (magic_of o img at) USED used) refl
      | inr other ↦ rw (ne_eqb (magic_of o img at) USED other) refl
    ]

pub walking_never : (f : Form) (j : ℕ) (img : List ℕ) (notes : Notes) (old new : List Extent) (live turn place at : ℕ) → ChainWalking f j img notes old new live turn place at → 0 < length img → turn ≡ length img → ⊥
walking_never f j img notes old new live turn place at h some long = absurd (omega (arith, h.count, long, walked_short f (chain_number j) img (chain_head j) h.so_far.xs place some h.so_far.walked))

pub walking_more : (f : Form) (j : ℕ) (img : List ℕ) (notes : Notes) (old new : List Extent) (live turn place at : ℕ) (h : ChainWalking f j img notes old new live turn place at) (notes2 : Notes) (next_extents : List Extent) (live2 : ℕ) (r : Rec) → at ≢ 0 → RecordPassed f j img h.so_far.xs place at r notes2 → next_extents ≡ new ++ (record { off = at; rec_len = r.rec_len }) ∷ [] → live2 ≡ live + counted r.magic → ChainWalking f j img notes2 old next_extents live2 (turn + 1) at r.next
walking_more f j img notes old new live turn place at w notes2 next_extents live2 r some p put more =
    let h = w.so_far in
    record {
      so_far = record {
        xs = h.xs ++ at ∷ [];
        walked = walked_more f (chain_number j) img [] (chain_head j) h.xs place at h.walked h.next some p.sound;
        next = sym (ap (λ (x : Rec). x.next) p.header);
        noted = p.noted;
        seen = ap extents_seen put ∙ map-append extent_seen new ((record { off = at; rec_len = r.rec_len }) ∷ [])
            ∙ (λ i. h.seen i ++ (at, 24 + (p.header i).rec_len) ∷ [])
            ∙ append_assoc (extents_seen old) (extents f.order img h.xs) (extent_at f.order img at ∷ [])
            ∙ ap (λ es. extents_seen old ++ es) (sym (extents_more f.order img h.xs at));
        used =
            (let magic = ap (λ (x : Rec). counted x.magic) p.header in
            let pushed = ap length (pairs-push f.order img h.xs at) in
            omega (arith, more, h.used, magic, pair_count f.order img at, pushed, length-append (pairs f.order img h.xs) (pair_of f.order img at)));
      };
      count = omega (arith, length-append h.xs (at ∷ []), w.count);
    }

-- where no key comes twice among the records of a walk, they are passed
module _ (f : Form) (j : ℕ) (img : List ℕ) (notes : Notes) (old new : List Extent) (live place at : ℕ) (h : Walking f j img notes old new live place at) (differ : KeysDiffer f img h.xs) where
  passed : Passed f (chain_number j) img [] (chain_head j) h.xs place
  passed = walked_passed f (chain_number j) img [] (chain_head j) h.xs place h.walked differ

  pub going_end : at ≡ 0 → ChainFollowed f j img old new live
  going_end zero_there =
      let ends : word f.order img place ≡ 0 = h.next ∙ zero_there in
      let is : chain_of f img j ≡ h.xs = chain_is f j img h.xs place passed ends in
      record {
        sound = (h.xs, place, passed, ends);
        shows = λ held s. subst (λ n. Shows n (held ++ extents f.order img (chain_of f img j))) (sym h.seen)
            (subst (λ xs. Shows (extents_seen old ++ extents f.order img h.xs) (held ++ extents f.order img xs)) (sym is) (shows_more (extents_seen old) held (extents f.order img h.xs) s));
        used = h.used ∙ ap (λ xs. length (pairs f.order img xs)) (sym is);
      }

  pub going_fault : (e : Fault) → at ≢ 0 → fault_but_twin f (chain_number j) img h.xs place at ≡ Some e → FirstInList f (chain_number j) img (chain_head j) e
  going_fault e some fault = (h.xs, place, passed, (λ z. some (sym h.next ∙ z)), subst (λ x. record_fault f (chain_number j) img h.xs place x ≡ Some e) (sym h.next) (fault_same f (chain_number j) img h.xs place at e fault))

  -- what was known is known
  pub going_tail : (t : Tails) → TailsOf f img (extents_seen old) t → (least : Extent) → least_from t at ≡ Some least → KnownTail f img (extents_seen new) at least
  going_tail t tails least is =
      tails_grown f img (extents_seen old) (extents_seen new) t (λ i. omega (arith, ap (λ es. times es i) h.seen, times-append (extents_seen old) (extents f.order img h.xs) i)) tails at least is

  -- the dead records at its end, where it ends or a known tail begins
  pub going_closing : (t : Tails) (rest : Option Extent) → EndsAt f img (extents_seen new) at rest → TailsOf f img (extents_seen old) t → Closing f img (extents_seen new) t notes.dead.items rest
  going_closing t rest ends tails =
      let d = h.noted.dead in
      record {
        xs = d.tail;
        end = at;
        leads = passed_leads f j img [] (chain_head j) d.before d.tail place at (subst (λ zs. Passed f (chain_number j) img [] (chain_head j) zs place) d.parts passed) h.next d.unused;
        shown = d.shown;
        ends = ends;
        held = λ z m.
            (let there : Member z h.xs = subst (Member z) (sym d.parts) (member_behind z d.before d.tail m) in
            let count = ap (λ es. times es z) h.seen ∙ times-append (extents_seen old) (extents f.order img h.xs) z in
            omega (arith, count, member_held f.order img h.xs z z there, first_held f.order img z));
        tails = tails_grown f img (extents_seen old) (extents_seen new) t (λ i. omega (arith, ap (λ es. times es i) h.seen, times-append (extents_seen old) (extents f.order img h.xs) i)) tails;
      }

  -- the rest of it is known
  pub going_known : (least : Extent) (next_extents : List Extent) → KnownTail f img (extents_seen new) at least → next_extents ≡ new ++ least ∷ [] → ChainFollowed f j img old next_extents live
  going_known least next_extents k put =
      let first = h.xs in
      let linked : Linked f IsChained img (word f.order img (chain_head j)) (first ++ k.xs) =
      passed_then f j img [] (chain_head j) first place k.xs passed (subst (λ x. Linked f IsChained img x k.xs) (sym h.next) k.linked) in
      let no_pair : pairs f.order img (first ++ k.xs) ≡ pairs f.order img first = unused_pairs f.order img first k.xs k.unused in
      let keys : KeysDiffer f img (first ++ k.xs) =
      subst (λ (ps : List (List ℕ × List ℕ)). IsDistinct same_key (map (λ (q : List ℕ × List ℕ). q.0) ps)) (sym no_pair) (differ) in
      let is : chain_of f img j ≡ first ++ k.xs = walk_meets f IsChained img (word f.order img (chain_head j)) (first ++ k.xs) linked in
      let e = extent_at f.order img least.off in
      let all : extents_seen next_extents ≡ (extents_seen old ++ extents f.order img first) ++ e ∷ [] =
      ap extents_seen put ∙ map-append extent_seen new (least ∷ []) ∙ (λ i. h.seen i ++ k.extent i ∷ []) in
      record {
        sound = sound_from f (chain_number j) img (chain_head j) (first ++ k.xs) linked (belong_then f j img first k.xs (passed_filed f j img [] (chain_head j) first place passed) k.unused) keys;
        shows = λ held s.
            (let both : (held ++ extents f.order img first) ++ extents f.order img k.xs ≡ held ++ extents f.order img (chain_of f img j) =
            append_assoc held (extents f.order img first) (extents f.order img k.xs) ∙ ap (λ es. held ++ es) (sym (extents_then f.order img first k.xs) ∙ ap (extents f.order img) (sym is)) in
            let some : 1 ≤ times (extents_seen old ++ extents f.order img first) least.off = subst (λ es. 1 ≤ times es least.off) h.seen k.held in
            subst (λ n. Shows n (held ++ extents f.order img (chain_of f img j))) (sym all)
            (subst (Shows ((extents_seen old ++ extents f.order img first) ++ e ∷ [])) both
            (shows_least f.order img k.xs least.off (extents_seen old ++ extents f.order img first) (held ++ extents f.order img first) k.member k.low some (shows_more (extents_seen old) held (extents f.order img first) s))));
        used = h.used ∙ ap length (sym no_pair ∙ ap (pairs f.order img) (sym is));
      }
