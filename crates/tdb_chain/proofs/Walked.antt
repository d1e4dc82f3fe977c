-- The walk along the chain of a key, turn by turn, and each way out of it.
use Rattle.std.proofs.Common.{◌≡◌, ℕ, ◌+◌, ◌<◌, ◌≤◌, List, length, take, drop, Some, None, refl, sym, ◌∙◌, ap, subst, inl, inr, arith}
use Rattle.std.specs.Prelude.{◌/◌, ◌%◌}
use Rattle.std.proofs.lemmas.Bool.{cases_eq}
use Rattle.std.proofs.lemmas.List.{length-drop, length-take-le}
use Rattle.tdb_words.specs.declared.record.Rec.{Rec}
use Rattle.tdb_words.specs.declared.record.TheConstants.{USED}
use Rattle.tdb_words.specs.Word.{word}
use Rattle.tdb_words.specs.Record.{rec_at}
use Rattle.tdb_words.specs.Hash.{h_of}
use Rattle.tdb_space.specs.Form.{Form, data_start, chain_head}
use Rattle.tdb_space.specs.Record.{key_at, data_at, key_len_of, magic_of}
use Rattle.tdb_space.specs.Chain.{chain_of, Leads}
use Rattle.tdb_space.specs.Pairs.{map_of, home}
use Rattle.tdb_space.specs.Accepted.{IsFiled}
use Rattle.tdb_space.proofs.Pairs.Maps.{home_below}
use Rattle.tdb_space.proofs.Chain.Ahead.{Ahead, Next, ahead_start, ahead_record, ahead_more, ahead_found, ahead_end}
use Rattle.tdb_space.proofs.Chain.Reached.{Reached, reached_start, reached_more, reached_here}
use Rattle.tdb_chain.specs.declared.place.Place.{Place}
use Rattle.tdb_chain.specs.Place.{LiesWithin, HoldsKey}
use Rattle.tdb_chain.specs.Wanted.{IsWanted}

-- the first bytes of a record that were read are as many as were asked for
pub front_shown : (window img now : List ℕ) (at held : ℕ) → held ≤ length window → now ≡ img → take held window ≡ take held (drop at img) → take held window ≡ take (length (take held window)) (drop at now)
front_shown window img now at held within same shows =
    shows ∙ ap (λ n. take n (drop at img)) (sym (length-take-le held window within)) ∙ ap (λ i. take (length (take held window)) (drop at i)) (sym same)

-- so many records of the key's chain were passed, none of which has the key, and the word at `before` leads to the next
-- one
pub record Walked (f : Form) (img key : List ℕ) (passed before at : ℕ) : Type 0 where
  pub ahead : Ahead f img key passed at
  pub reached : Reached f img key before at

-- at first nothing was passed, and the head of the chain leads on
pub walked_start : (f : Form) (img key : List ℕ) (before at : ℕ) → IsFiled f img → before ≡ chain_head (home f key) → at ≡ word f.order img before → Walked f img key 0 before at
walked_start f img key before at h head first =
    let e : at ≡ word f.order img (chain_head (home f key)) = first ∙ ap (word f.order img) head in
    record {
      ahead = subst (Ahead f img key 0) (sym e) (ahead_start f img key h);
      reached = subst (λ b. Reached f img key b at) (sym head) (subst (Reached f img key (chain_head (home f key))) (sym e) (reached_start f img key h));
    }

module _ (f : Form) (img key : List ℕ) (passed before at : ℕ) (w : Walked f img key passed before at) where
  -- what the walk comes to, if it isn't the end of the chain
  next : (at ≡ 0 → ⊥) → Next f img key passed at
  next some = ahead_record f img key passed at w.ahead some

  -- where no record of the chain can be, the chain ends
  pub walked_end : ((at ≡ 0 → ⊥) → Next f img key passed at → ⊥) → map_of f img key ≡ None
  walked_end never = elim (cases_eq at 0) [
    | inl end_there ↦ ahead_end f img key passed at w.ahead end_there
    | inr some ↦ absurd (never some (next some))
  ]

  -- the word leads to no whole word, in front of the data, or to fewer bytes than a header
  pub walked_out : (at % 4 ≡ 0 → data_start f ≤ at → at + 24 ≤ length img → ⊥) → map_of f img key ≡ None
  walked_out out = walked_end (λ some n. out n.link.0.aligned n.link.0.above (omega (arith, n.link.0.within)))

  -- the record there doesn't lie within the image
  pub walked_long : (r : Rec) → r ≡ rec_at f.order img at → (LiesWithin r at (length img) → ⊥) → map_of f img key ≡ None
  walked_long r read long =
      walked_end (λ some n. long (subst (λ q. LiesWithin q at (length img)) (sym read) (record {
        content = record { aligned = n.link.0.len_aligned; least = n.link.0.len_least; within = n.link.0.within };
        fits = λ used. (n.filed used).fits;
      })))

  -- as many records were passed as the image has words
  pub walked_all : length img / 4 ≤ passed → map_of f img key ≡ None
  walked_all all = walked_end (λ some n. absurd (omega (arith, all, n.room)))

  -- the record there isn't the wanted one
  pub walked_more : (r : Rec) (hash : ℕ) → data_start f ≤ at → r ≡ rec_at f.order img at → hash ≡ h_of f.hash key → LiesWithin r at (length img) → (IsWanted r hash img at key → ⊥) → Walked f img key (passed + 1) at r.next
  walked_more r hash above read hashed lies other =
      let some : at ≡ 0 → ⊥ = λ e. absurd (omega (arith, e, above)) in
      let n = next some in
      let lacks : magic_of f.order img at ≡ USED → key_at f.order img at ≡ key → ⊥ = λ used same. other (wanted used same n) in
      let e : r.next ≡ word f.order img at = ap (λ (q : Rec). q.next) read in
      record {
        ahead = subst (Ahead f img key (passed + 1)) (sym e) (ahead_more f img key passed at w.ahead some lacks);
        reached = subst (Reached f img key at) (sym e) (reached_more f img key before at n.link w.reached);
      }
    where
      wanted : magic_of f.order img at ≡ USED → key_at f.order img at ≡ key → Next f img key passed at → IsWanted r hash img at key
      wanted used same n =
          let within : at + 24 + key_len_of f.order img at ≤ length img = omega (arith, (n.filed used).fits, n.link.0.within) in
          let room : key_len_of f.order img at ≤ length (drop (at + 24) img) = omega (arith, within, length-drop (at + 24) img) in
          let long : key_len_of f.order img at ≡ length key = sym (length-take-le (key_len_of f.order img at) (drop (at + 24) img) room) ∙ ap length same in
          record {
            used = ap (λ (q : Rec). q.magic) read ∙ used;
            hashed = ap (λ (q : Rec). q.full_hash) read ∙ (n.filed used).hashed ∙ ap (h_of f.hash) same ∙ sym hashed;
            as_long = ap (λ (q : Rec). q.key_len) read ∙ long;
            there = ap (λ m. take m (drop (at + 24) img)) (sym long) ∙ same;
          }

  -- the record there is the wanted one
  pub walked_found : (p : Place) (hash : ℕ) → 0 < f.chains → data_start f ≤ at → p.off ≡ at → p.before ≡ before → p.rec ≡ rec_at f.order img at → IsWanted p.rec hash img at key → HoldsKey f img key p
  walked_found p hash chains above off led read wanted =
      let some : at ≡ 0 → ⊥ = λ e. absurd (omega (arith, e, above)) in
      let used : magic_of f.order img at ≡ USED = ap (λ (q : Rec). q.magic) (sym read) ∙ wanted.used in
      let same : key_at f.order img at ≡ key = ap (λ (q : Rec). take q.key_len (drop (at + 24) img)) (sym read) ∙ ap (λ m. take m (drop (at + 24) img)) wanted.as_long ∙ wanted.there in
      let here = reached_here f img key passed before at w.ahead some w.reached in
      record {
        place = record {
          chain = home f key;
          below = home_below f key chains;
          leads = subst (λ b. Leads (chain_head (home f key)) (chain_of f img (home f key)) b p.off) (sym led) (subst (Leads (chain_head (home f key)) (chain_of f img (home f key)) before) (sym off) here);
          header = read ∙ ap (rec_at f.order img) (sym off);
        };
        at_home = refl;
        used = wanted.used;
        has_key = ap (key_at f.order img) off ∙ same;
        mapped = ahead_found f img key passed at w.ahead some used same ∙ ap (λ x. Some (data_at f.order img x)) (sym off);
      }
