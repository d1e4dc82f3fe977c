-- A walk over all pairs, step by step.
use Rattle.std.proofs.Common.{◌≡◌, ℕ, ◌+◌, ◌-◌, ◌*◌, ◌<◌, ◌≤◌, List, [], ◌∷◌, ◌++◌, length, append_assoc, Option, Some, sym, ◌∙◌, ap, subst, inl, inr, arith}
use Rattle.std.specs.Prelude.{◌/◌}
use Rattle.std.proofs.lemmas.Bool.{cases_eq}
use Rattle.std.proofs.lemmas.Nat.{row_fits}
use Rattle.std.proofs.lemmas.List.{append-nil}
use Rattle.tdb_words.specs.declared.record.TheConstants.{USED}
use Rattle.tdb_words.specs.declared.record.Rec.{Rec}
use Rattle.tdb_words.specs.Word.{word}
use Rattle.tdb_words.specs.Record.{rec_at}
use Rattle.tdb_space.specs.Form.{Form, data_start, chain_head}
use Rattle.tdb_space.specs.Record.{IsChained, Fits, key_at, data_at, magic_of}
use Rattle.tdb_space.specs.Chain.{Chain, IsLink, chain_of}
use Rattle.tdb_space.specs.Pairs.{pairs, order_of}
use Rattle.tdb_space.specs.Accepted.{AllFiled, IsFiled}
use Rattle.tdb_space.proofs.Chain.Walks.{linked_short}
use Rattle.tdb_space.proofs.Pairs.Listed.{joined_more}
use Rattle.tdb_space.proofs.Pairs.Maps.{pairs_used, pairs_other}
use Rattle.tdb_backup.specs.declared.traversal.Traversal.{Traversal}
use Rattle.tdb_backup.specs.Held.{IsPairOf}
use Rattle.tdb_backup.specs.Traversal.{Gave, GaveChains, most_left, pair_at_hand, pairs_below}

-- what holds of a form and an image holds of those that are the same
pub moved : (P : Form → List ℕ → Type 0) (f k : Form) (a b : List ℕ) → k ≡ f → b ≡ a → P k b → P f a
moved P f k a b form image there = subst (P f) image (subst (λ x. P x b) form there)

module _ (f : Form) (img : List ℕ) (given : List (List ℕ × List ℕ)) (t : Traversal) where
  -- a walk that has passed no chain stands before the first pair
  pub gave_start : given ≡ [] → t.next_chain ≡ 0 → t.at ≡ 0 → Gave f img given t
  gave_start none first zero = record {
    ahead = [];
    chain = 0;
    linked = zero;
    filed = tt;
    below = omega (arith, first);
    all = ap (pairs_below f img) first ∙ sym none ∙ sym (append-nil given);
    room = omega arith;
  }

  -- at the end of a chain nothing of it is ahead
  pub gave_chains : GaveChains f img given t → Gave f img given t
  gave_chains h = record {
    ahead = [];
    chain = 0;
    linked = h.at_end;
    filed = tt;
    below = h.below;
    all = h.all ∙ sym (append-nil given);
    room = omega arith;
  }

  -- where the next offset is 0 the chain at hand was given
  pub gave_end : Gave f img given t → t.at ≡ 0 → GaveChains f img given t
  gave_end h zero = from h.ahead h.linked h.all
    where
      from : (ahead : List ℕ) → Chain f img t.at ahead → pairs_below f img t.next_chain ≡ given ++ pairs f.order img ahead → GaveChains f img given t
      from [] linked all = record { at_end = zero; below = h.below; all = all ∙ append-nil given }
      from (x ∷ xs) linked all = absurd (omega (arith, zero, linked.0, linked.1.above))

  -- where no record may be read any more none is ahead
  pub gave_out : Gave f img given t → t.left ≡ 0 → GaveChains f img given t
  gave_out h none = from h.ahead h.linked h.room
    where
      from : (ahead : List ℕ) → Chain f img t.at ahead → length ahead ≤ t.left → GaveChains f img given t
      from [] linked room = gave_end h linked
      from (x ∷ xs) linked room = absurd (omega (arith, none, room))

  -- where all chains were passed the order of the image was given
  pub gave_all : GaveChains f img given t → f.chains ≤ t.next_chain → order_of f img ≡ given
  gave_all h all = let e : f.chains ≡ t.next_chain = omega (arith, all, h.below) in ap (pairs_below f img) e ∙ h.all

  -- what is ahead where the next offset isn't 0: a record of the chain, which has room for what it holds if it is used
  pub gave_link : Gave f img given t → (t.at ≡ 0 → ⊥) → IsLink f img t.at
  gave_link h some = from h.ahead h.linked
    where
      from : (ahead : List ℕ) → Chain f img t.at ahead → IsLink f img t.at
      from [] linked = absurd (some linked)
      from (x ∷ xs) linked = subst (IsLink f img) (sym linked.0) (linked.1, linked.2)

  pub gave_fits : Gave f img given t → (t.at ≡ 0 → ⊥) → magic_of f.order img t.at ≡ USED → Fits f.order img t.at
  gave_fits h some = from h.ahead h.linked h.filed
    where
      from : (ahead : List ℕ) → Chain f img t.at ahead → AllFiled f img h.chain ahead → magic_of f.order img t.at ≡ USED → Fits f.order img t.at
      from [] linked filed used = absurd (some linked)
      from (x ∷ xs) linked filed used = subst (Fits f.order img) (sym linked.0) ((filed.0 (subst (λ y. magic_of f.order img y ≡ USED) linked.0 used)).fits)

  -- where the record that would be ahead isn't there, the chain has ended
  pub gave_none : (found : Option Rec) (r : Rec) → Gave f img given t → (IsLink f img t.at → (magic_of f.order img t.at ≡ USED → Fits f.order img t.at) → found ≡ Some r) → (found ≡ Some r → ⊥) → GaveChains f img given t
  gave_none found r h there never =
      elim (cases_eq t.at 0) [
        | inl zero ↦ gave_end h zero
        | inr some ↦ absurd (never (there (gave_link h some) (gave_fits h some)))
      ]

module _ (f : Form) (img : List ℕ) (given : List (List ℕ × List ℕ)) (t u : Traversal) where
  -- at the head of the next chain all of it is ahead
  pub gave_entered : IsFiled f img → GaveChains f img given t → t.next_chain < f.chains → u.at ≡ word f.order img (chain_head t.next_chain) → u.left ≡ length img / 4 → u.next_chain ≡ t.next_chain + 1 → Gave f img given u
  gave_entered filed h more head left next =
      let n = t.next_chain in
      let linked : Chain f img u.at (chain_of f img n) = subst (λ at. Chain f img at (chain_of f img n)) (sym head) (filed.chains n more) in
      record {
        ahead = chain_of f img n;
        chain = n;
        linked = linked;
        filed = filed.filed n more;
        below = omega (arith, next, more);
        all = ap (pairs_below f img) next ∙ joined_more n (λ j. pairs f.order img (chain_of f img j)) ∙ ap (λ ps. ps ++ pairs f.order img (chain_of f img n)) h.all;
        room = omega (arith, left, linked_short f IsChained img u.at (chain_of f img n) linked);
      }

  -- the next record is passed: a used one gives its pair, another one none
  pub gave_pair : Gave f img given t → (t.at ≡ 0 → ⊥) → magic_of f.order img t.at ≡ USED → u.at ≡ word f.order img t.at → u.left ≡ t.left - 1 → u.next_chain ≡ t.next_chain → (pair : List ℕ × List ℕ) → pair ≡ (key_at f.order img t.at, data_at f.order img t.at) → Gave f img (given ++ pair ∷ []) u
  gave_pair h some used next left chain pair held = from h.ahead h.linked h.filed h.all h.room
    where
      from : (ahead : List ℕ) → Chain f img t.at ahead → AllFiled f img h.chain ahead → pairs_below f img t.next_chain ≡ given ++ pairs f.order img ahead → length ahead ≤ t.left → Gave f img (given ++ pair ∷ []) u
      from [] linked filed all room = absurd (some linked)
      from (x ∷ xs) linked filed all room =
          let used_there : magic_of f.order img x ≡ USED = subst (λ y. magic_of f.order img y ≡ USED) linked.0 used in
          let held_there : (key_at f.order img x, data_at f.order img x) ≡ pair = ap (λ y. (key_at f.order img y, data_at f.order img y)) (sym linked.0) ∙ sym held in
          record {
            ahead = xs;
            chain = h.chain;
            linked = subst (λ at. Chain f img at xs) (sym (next ∙ ap (word f.order img) linked.0)) linked.3;
            filed = filed.1;
            below = omega (arith, h.below, chain);
            all = ap (pairs_below f img) chain ∙ all ∙ ap (λ ps. given ++ ps) (pairs_used f.order img x xs used_there ∙ ap (λ p. p ∷ pairs f.order img xs) held_there)
                ∙ sym (append_assoc given (pair ∷ []) (pairs f.order img xs));
            room = omega (arith, left, room);
          }

  pub gave_dead : Gave f img given t → (t.at ≡ 0 → ⊥) → (magic_of f.order img t.at ≡ USED → ⊥) → u.at ≡ word f.order img t.at → u.left ≡ t.left - 1 → u.next_chain ≡ t.next_chain → Gave f img given u
  gave_dead h some dead next left chain = from h.ahead h.linked h.filed h.all h.room
    where
      from : (ahead : List ℕ) → Chain f img t.at ahead → AllFiled f img h.chain ahead → pairs_below f img t.next_chain ≡ given ++ pairs f.order img ahead → length ahead ≤ t.left → Gave f img given u
      from [] linked filed all room = absurd (some linked)
      from (x ∷ xs) linked filed all room = record {
        ahead = xs;
        chain = h.chain;
        linked = subst (λ at. Chain f img at xs) (sym (next ∙ ap (word f.order img) linked.0)) linked.3;
        filed = filed.1;
        below = omega (arith, h.below, chain);
        all = ap (pairs_below f img) chain ∙ all ∙ ap (λ ps. given ++ ps) (pairs_other f.order img x xs (λ used. dead (subst (λ y. magic_of f.order img y ≡ USED) (sym linked.0) used)));
        room = omega (arith, left, room);
      }

  -- the walk stands where it stood
  pub gave_kept : Gave f img given t → u.at ≡ t.at → u.left ≡ t.left → u.next_chain ≡ t.next_chain → Gave f img given u
  gave_kept h at left chain = record {
    ahead = h.ahead;
    chain = h.chain;
    linked = subst (λ x. Chain f img x h.ahead) (sym at) h.linked;
    filed = h.filed;
    below = omega (arith, h.below, chain);
    all = ap (pairs_below f img) chain ∙ h.all;
    room = omega (arith, left, h.room);
  }

module _ (f : Form) (img : List ℕ) (given : List (List ℕ × List ℕ)) (t u : Traversal) (rec : Rec) (h : Gave f img given t) (above : data_start f ≤ t.at) (read : rec ≡ rec_at f.order img t.at) (next : u.at ≡ rec.next) (left : u.left ≡ t.left - 1) (chain : u.next_chain ≡ t.next_chain) where
  some : t.at ≡ 0 → ⊥
  some zero = absurd (omega (arith, zero, above))

  leads : u.at ≡ word f.order img t.at
  leads = next ∙ ap (λ (r : Rec). r.next) read

  -- a used record was read, and its pair is held
  pub stepped_pair : rec.magic ≡ USED → IsPairOf rec img t.at (pair_at_hand u) → Gave f img (given ++ pair_at_hand u ∷ []) u
  stepped_pair used held =
      gave_pair f img given t u h some (ap (λ (r : Rec). r.magic) (sym read) ∙ used) leads left chain (pair_at_hand u)
      (subst (λ r. IsPairOf r img t.at (pair_at_hand u)) read held)

  -- another record was passed
  pub stepped_dead : (rec.magic ≡ USED → ⊥) → Gave f img given u
  stepped_dead dead = gave_dead f img given t u h some (λ used. dead (ap (λ (r : Rec). r.magic) read ∙ used)) leads left chain

-- fewer records are left to read where the walk goes on to the next chain
row_shorter : (x y w l m : ℕ) → x + w ≤ y → l ≤ w → x + l ≤ y + m
row_shorter x y w l m row short = omega (arith, row, short)

pub entered_fewer : (chains len most : ℕ) (t u : Traversal) → t.next_chain < chains → u.next_chain ≡ t.next_chain + 1 → 4 * u.left ≤ len → most_left chains len t ≤ most → most_left chains len u ≤ most
entered_fewer chains len most t u more next counted before =
    let w = len / 4 in
    let short : u.left ≤ w = omega (arith, counted) in
    let lower : chains - (t.next_chain + 1) < chains - t.next_chain = omega (arith, more) in
    let same : w ≤ w = omega arith in
    let row = row_shorter ((chains - (t.next_chain + 1)) * w) ((chains - t.next_chain) * w) w u.left t.left (row_fits (chains - (t.next_chain + 1)) w (chains - t.next_chain) w lower same) short in
    no_more (most_left chains len u) (most_left chains len t) most (subst (λ m. (chains - m) * w + u.left ≤ (chains - t.next_chain) * w + t.left) (sym next) row) before
  where
    no_more : (x y z : ℕ) → x ≤ y → y ≤ z → x ≤ z
    no_more x y z p q = omega (arith, p, q)
