-- What the commands of a merge do by the law.
use Rattle.std.proofs.Common.{◌≡◌, ℕ, Bool, true, false, cond, List, Option, None, Some, refl, sym, ◌∙◌, ap, subst, inl, inr, ◌⊎◌, arith}
use Rattle.std.specs.Prelude.{◌||◌, ◌&&◌, is_none, nat_le}
use Rattle.std.specs.FinMap.{insert}
use Rattle.tdb_law.specs.Commands.{Command, MapCommand, is_done, is_spare}
use Rattle.tdb_law.specs.Commands.Command.{OnGroup, OnMap}
use Rattle.tdb_law.specs.Commands.GroupCommand.{Commit, Start}
use Rattle.tdb_law.specs.Commands.MapCommand.{Store}
use Rattle.tdb_law.specs.Commands.Reply.{Done}
use Rattle.tdb_law.specs.Ends.{last_by, map_last}
use Rattle.tdb_law.specs.MapCommands.{after, map_changes, reply}
use Rattle.tdb_law.specs.Openers.{Map, Own, Txn, image_or, seen}
use Rattle.tdb_law.specs.Outcomes.{begun_txn, changed_txn, map_by, own_by, own_started}
use Rattle.tdb_law.specs.Refusals.{Refusal, refusal}
use Rattle.tdb_law.specs.Replay.{ends_commit_by, is_outer}
use Rattle.tdb_merge.specs.Parts.{Committed, Does, HasImage, Inside, Outside}

cond_same : (b : Bool) (m n : Map) → n ≡ m → cond b m n ≡ m
cond_same true m n e = refl
cond_same false m n e = e

cond_either : (b : Bool) (m n k : Map) → (k ≡ m) ⊎ (k ≡ n) → (cond b m k ≡ m) ⊎ (cond b m k ≡ n)
cond_either true m n k e = inl refl
cond_either false m n k e = e

-- the map that a command is told to leave, where it is refused so or isn't
abbrev told_map : Option Refusal → Command → Own → Map → Map
told_map q c x m = cond (ends_commit_by q c x) (seen x m) (map_by q c x m)

-- A Start leaves the map, and begins a transaction on it.
start_map : (q : Option Refusal) (x : Own) (m : Map) → told_map q (OnGroup Start) x m ≡ m
start_map (Some q) x m = refl
start_map None x m = refl

pub start_does : (m n : Map) → Does m n Outside m (Inside m) (OnGroup Start)
start_does m n = record {
  steps = λ f x none k low. tt;
  commits = λ x none is t has. absurd (let both : None ≡ Some t = sym none ∙ has in cc both);
  ends = λ f x none r. inl (cond_same (is_spare r) m _ (start_map (refusal f (OnGroup Start) x) x m));
  done_map = λ f x none granted. start_map (refusal f (OnGroup Start) x) x m;
  done_own = λ f x none granted k.
      subst (λ q. HasImage m (own_by f q (OnGroup Start) x k Done m)) (sym granted) (subst (λ t. HasImage m (own_started t x m)) (sym none) (record { txn = begun_txn x m; has = refl; image = refl; outer = refl }));
}

-- A command on the map within the transaction takes no step and leaves the committed map.
module _ (c : MapCommand) (x : Own) (t : Txn) (has : x.txn ≡ Some t) where
  store_last : (q : Option Refusal) → last_by q (OnMap c) x ≡ 0
  store_last (Some q) = refl
  store_last None = ap (λ z. cond (is_none z) (map_last c) 0) has

  store_map : (q : Option Refusal) (m : Map) → told_map q (OnMap c) x m ≡ m
  store_map (Some q) m = refl
  store_map None m = ap (λ z. cond (is_none z) (after c m) m) has

-- the transaction after it
abbrev changed : MapCommand → Txn → Txn
changed c t = record t { image = after c t.image; changed = t.changed || (map_changes c && is_done (reply c t.image)) }

pub store_does : (m n b : Map) (key value : List ℕ) → Does m n (Inside b) m (Inside (insert b key value)) (OnMap (Store key value))
store_does m n b key value = record {
  steps = λ f x P k low. absurd (let none = store_last (Store key value) x P.txn P.has (refusal f (OnMap (Store key value)) x) in omega (arith, low, none));
  commits = λ x P is t has. absurd (cc is);
  ends = λ f x P r. inl (cond_same (is_spare r) m _ (store_map (Store key value) x P.txn P.has (refusal f (OnMap (Store key value)) x) m));
  done_map = λ f x P granted. store_map (Store key value) x P.txn P.has (refusal f (OnMap (Store key value)) x) m;
  done_own = λ f x P granted k.
      subst (λ q. HasImage (insert b key value) (own_by f q (OnMap (Store key value)) x k Done m)) (sym granted)
      (record { txn = changed (Store key value) P.txn; has = ap (changed_txn (Store key value)) P.has; image = ap (λ z. insert z key value) P.image; outer = P.outer });
}

-- A Commit leaves the map, or makes it that of the image.
module _ (n : Map) (x : Own) (P : HasImage n x) (m : Map) where
  is_last : is_outer x.txn ≡ true
  is_last = ap is_outer P.has ∙ ap (λ d. nat_le d 1) P.outer

  its_image : seen x m ≡ n
  its_image = ap (λ z. image_or z m) P.has ∙ P.image

  commit_open : told_map None (OnGroup Commit) x m ≡ n
  commit_open = ap (λ b. cond b (seen x m) (map_by None (OnGroup Commit) x m)) is_last ∙ its_image

  commit_map : (q : Option Refusal) → (told_map q (OnGroup Commit) x m ≡ m) ⊎ (told_map q (OnGroup Commit) x m ≡ n)
  commit_map (Some q) = inl refl
  commit_map None = inr commit_open

pub commit_does : (m n : Map) → Does m n (Inside n) n Committed (OnGroup Commit)
commit_does m n = record {
  steps = λ f x P k low. tt;
  commits = λ x P is t has.
      (let same : P.txn ≡ t = (let both = sym P.has ∙ has in cc both) in ap (λ (z : Txn). z.image) (sym same) ∙ P.image);
  ends = λ f x P r. cond_either (is_spare r) m n _ (commit_map n x P m (refusal f (OnGroup Commit) x));
  done_map = λ f x P granted. ap (λ q. told_map q (OnGroup Commit) x m) granted ∙ commit_open n x P m;
  done_own = λ f x P granted k. tt;
}
