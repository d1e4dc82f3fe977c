-- What the ends of the commands of a group leave, of an opener that has its transaction and nothing else.
use Rattle.std.proofs.Common.{◌≡◌, ℕ, ◌-◌, Bool, true, false, cond, List, Option, None, Some, is_some, refl, sym, ◌∙◌, ap, inl, inr, ◌⊎◌}
use Rattle.std.specs.Prelude.{◌&&◌, ◌||◌, is_none, nat_lt, nat_le}
use Rattle.std.specs.FinMap.{get}
use Rattle.tdb_space.specs.Form.{Form}
use Rattle.tdb_law.specs.Commands.{Command, MapCommand, Reply, is_done, is_spare}
use Rattle.tdb_law.specs.Commands.Command.{OnGroup, OnMap}
use Rattle.tdb_law.specs.Commands.GroupCommand.{Cancel, Commit, Prepare, Start}
use Rattle.tdb_law.specs.Commands.MapCommand.{Fetch, Has, Delete, Store, Insert, Modify, Append, Wipe, Check}
use Rattle.tdb_law.specs.Commands.Reply.{Done, Full, KeyMissing, KeyThere, Memory, No, NoTransaction, Yes}
use Rattle.tdb_law.specs.Ends.{starves, starves_by}
use Rattle.tdb_law.specs.MapCommands.{after, fetched, map_changes, map_fills, reply}
use Rattle.tdb_law.specs.Openers.{Map, Options, Own, Txn, has, seen}
use Rattle.tdb_law.specs.Outcomes.{begun_txn, fills, fills_by, map_by, own_after, own_by, own_spared, told, told_by}
use Rattle.tdb_law.specs.Refusals.{Refusal, refusal}
use Rattle.tdb_law.specs.Refusals.Refusal.{NoneOpen}
use Rattle.tdb_law.specs.Replay.{ends_commit_by, map_told}
use Rattle.tdb_law.specs.Rows.{plans_in}
use Rattle.tdb_law.proofs.Tests.{never_true}
use Rattle.tdb_group.specs.Members.{with_txn}
use Rattle.tdb_group.specs.Turns.{Ended, Tells}
use Rattle.tdb_group.specs.Turns.Tells.{tells_full, tells_memory, tells_told}
use Rattle.tdb_group.proofs.Plainly.{IsKeyed, cancels, cancels_nothing, commits, keyed, prepares, starts}

-- a prepared transaction has nothing to plan
some_not_none : (p : Option ℕ) → is_some p ≡ true → is_none p ≡ false
some_not_none None e = absurd (never_true e)
some_not_none (Some steps) e = refl

and_none : (a b : Bool) → (a && b && false) ≡ false
and_none true true = refl
and_none true false = refl
and_none false true = refl
and_none false false = refl

unplanned : (t : Txn) → is_some t.prepared ≡ true → plans_in t ≡ false
unplanned t e = ap (λ z. nat_le t.depth 1 && t.changed && z) (some_not_none t.prepared e) ∙ and_none (nat_le t.depth 1) t.changed

-- the committed map that a command leaves that is refused so, or isn't
abbrev left_map : Option Refusal → Command → Own → Map → Map
left_map q c x m = cond (ends_commit_by q c x) (seen x m) (map_by q c x m)

-- The end of a command that is refused so, or isn't.
module _ (f : Form) (c : Command) (x : Own) (m : Map) (r : Reply) (end : Map) (y : Own) (q : Option Refusal) (is : refusal f c x ≡ q) (E : Ended f c x m r end y) where
  -- with a reply that tells that nothing was changed
  spare_map : is_spare r ≡ true → end ≡ m
  spare_map spare = E.map ∙ ap (λ b. cond b m (map_told f c x m)) spare

  spare_own : is_spare r ≡ true → y ≡ own_spared c x
  spare_own spare = E.own ∙ ap (λ b. cond b (own_spared c x) (own_after f c x E.steps r m)) spare

  -- and with another
  other_map : is_spare r ≡ false → end ≡ left_map q c x m
  other_map other = E.map ∙ ap (λ b. cond b m (map_told f c x m)) other ∙ ap (λ z. left_map z c x m) is

  other_own : is_spare r ≡ false → y ≡ own_by f q c x E.steps r m
  other_own other = E.own ∙ ap (λ b. cond b (own_spared c x) (own_after f c x E.steps r m)) other ∙ ap (λ z. own_by f z c x E.steps r m) is

  told_reply : r ≡ told f c x m → r ≡ told_by q c x m
  told_reply told = told ∙ ap (λ z. told_by z c x m) is

  never_full : fills_by q c x ≡ false → fills f c x ≡ true → ⊥
  never_full none fills = never_true (sym none ∙ sym (ap (λ z. fills_by z c x) is) ∙ fills)

  never_starves : starves_by q c x ≡ false → starves f c x ≡ true → ⊥
  never_starves none starving = never_true (sym none ∙ sym (ap (λ z. starves_by z c x) is) ∙ starving)

-- a reply of a plain map isn't spare
fetched_plain : (o : Option (List ℕ)) → is_spare (fetched o) ≡ false
fetched_plain None = refl
fetched_plain (Some v) = refl

either_plain : (b : Bool) (p q : Reply) → is_spare p ≡ false → is_spare q ≡ false → is_spare (cond b p q) ≡ false
either_plain true p q one two = one
either_plain false p q one two = two

reply_plain : (c : MapCommand) (n : Map) → is_spare (reply c n) ≡ false
reply_plain (Fetch k) n = fetched_plain (get n k)
reply_plain (Has k) n = either_plain (has n k) Yes No refl refl
reply_plain (Delete k) n = either_plain (has n k) Done KeyMissing refl refl
reply_plain (Store k v) n = refl
reply_plain (Insert k v) n = either_plain (has n k) KeyThere Done refl refl
reply_plain (Modify k v) n = either_plain (has n k) Done KeyMissing refl refl
reply_plain (Append k v) n = refl
reply_plain Wipe n = refl
reply_plain Check n = refl

module _ (f : Form) (o : Options) (m : Map) (r : Reply) (end : Map) (y : Own) where
  -- A Start is done, and begins a transaction on the committed map; or memory is wanting, and nothing changes.
  pub start_ended : o.read_only ≡ false → Ended f (OnGroup Start) (with_txn o None) m r end y
      → ((r ≡ Done) × (end ≡ m) × (y ≡ with_txn o (Some (begun_txn (with_txn o None) m)))) ⊎ ((r ≡ Memory) × (end ≡ m) × (y ≡ with_txn o None))
  start_ended writes E = of E.says
    where
      granted : refusal f (OnGroup Start) (with_txn o None) ≡ None
      granted = starts f o writes

      of : Tells f (OnGroup Start) (with_txn o None) m r → ((r ≡ Done) × (end ≡ m) × (y ≡ with_txn o (Some (begun_txn (with_txn o None) m)))) ⊎ ((r ≡ Memory) × (end ≡ m) × (y ≡ with_txn o None))
      of (tells_told told) =
          let done : r ≡ Done = told_reply f (OnGroup Start) (with_txn o None) m r end y None granted E told in
          let other : is_spare r ≡ false = ap is_spare done in
          inl (done, other_map f (OnGroup Start) (with_txn o None) m r end y None granted E other, other_own f (OnGroup Start) (with_txn o None) m r end y None granted E other)
      of (tells_memory is starving) =
          let spare : is_spare r ≡ true = ap is_spare is in
          inr (is, spare_map f (OnGroup Start) (with_txn o None) m r end y None granted E spare, spare_own f (OnGroup Start) (with_txn o None) m r end y None granted E spare)
      of (tells_full len need is full told) = absurd (never_full f (OnGroup Start) (with_txn o None) m r end y None granted E refl full)

  -- A Cancel without a transaction changes nothing.
  pub no_cancel_ended : Ended f (OnGroup Cancel) (with_txn o None) m r end y → (end ≡ m) × (y ≡ with_txn o None)
  no_cancel_ended E = of E.says
    where
      refused : refusal f (OnGroup Cancel) (with_txn o None) ≡ Some NoneOpen
      refused = cancels_nothing f o

      of : Tells f (OnGroup Cancel) (with_txn o None) m r → (end ≡ m) × (y ≡ with_txn o None)
      of (tells_told told) =
          let is : r ≡ NoTransaction = told_reply f (OnGroup Cancel) (with_txn o None) m r end y (Some NoneOpen) refused E told in
          let other : is_spare r ≡ false = ap is_spare is in
          (other_map f (OnGroup Cancel) (with_txn o None) m r end y (Some NoneOpen) refused E other, other_own f (OnGroup Cancel) (with_txn o None) m r end y (Some NoneOpen) refused E other)
      of (tells_memory is starving) = absurd (never_starves f (OnGroup Cancel) (with_txn o None) m r end y (Some NoneOpen) refused E refl starving)
      of (tells_full len need is full told) = absurd (never_full f (OnGroup Cancel) (with_txn o None) m r end y (Some NoneOpen) refused E refl full)

  -- In an outer transaction.
  module _ (t : Txn) (outer : nat_lt 1 t.depth ≡ false) where
    -- a Cancel ends it
    pub cancel_ended : Ended f (OnGroup Cancel) (with_txn o (Some t)) m r end y → (end ≡ m) × (y ≡ with_txn o None)
    cancel_ended E = of E.says
      where
        granted : refusal f (OnGroup Cancel) (with_txn o (Some t)) ≡ None
        granted = cancels f o t

        of : Tells f (OnGroup Cancel) (with_txn o (Some t)) m r → (end ≡ m) × (y ≡ with_txn o None)
        of (tells_told told) =
            let is : r ≡ Done = told_reply f (OnGroup Cancel) (with_txn o (Some t)) m r end y None granted E told in
            let other : is_spare r ≡ false = ap is_spare is in (
              other_map f (OnGroup Cancel) (with_txn o (Some t)) m r end y None granted E other,
              other_own f (OnGroup Cancel) (with_txn o (Some t)) m r end y None granted E other
                  ∙ ap (λ b. cond b (with_txn o (Some (record t { depth = t.depth - 1; doomed = true }))) (with_txn o None)) outer,
            )
        of (tells_memory is starving) = absurd (never_starves f (OnGroup Cancel) (with_txn o (Some t)) m r end y None granted E refl starving)
        of (tells_full len need is full told) = absurd (never_full f (OnGroup Cancel) (with_txn o (Some t)) m r end y None granted E refl full)

    -- A Commit of a prepared one is done, and its image becomes the committed map.
    pub commit_ended : is_some t.prepared ≡ true → nat_le t.depth 1 ≡ true → t.doomed ≡ false → Ended f (OnGroup Commit) (with_txn o (Some t)) m r end y
        → (r ≡ Done) × (end ≡ t.image) × (y ≡ with_txn o None)
    commit_ended prepared low intact E = of E.says
      where
        granted : refusal f (OnGroup Commit) (with_txn o (Some t)) ≡ None
        granted = commits f o t prepared outer intact

        no_plan : plans_in t ≡ false
        no_plan = unplanned t prepared

        of : Tells f (OnGroup Commit) (with_txn o (Some t)) m r → (r ≡ Done) × (end ≡ t.image) × (y ≡ with_txn o None)
        of (tells_told told) =
            let is : r ≡ Done = told_reply f (OnGroup Commit) (with_txn o (Some t)) m r end y None granted E told in
            let other : is_spare r ≡ false = ap is_spare is in (
              is,
              other_map f (OnGroup Commit) (with_txn o (Some t)) m r end y None granted E other
                  ∙ ap (λ b. cond b t.image (map_by None (OnGroup Commit) (with_txn o (Some t)) m)) low,
              other_own f (OnGroup Commit) (with_txn o (Some t)) m r end y None granted E other
                  ∙ ap (λ b. cond b (with_txn o (Some (record t { depth = t.depth - 1 }))) (with_txn o None)) outer,
            )
        of (tells_memory is starving) = absurd (never_starves f (OnGroup Commit) (with_txn o (Some t)) m r end y None granted E no_plan starving)
        of (tells_full len need is full told) = absurd (never_full f (OnGroup Commit) (with_txn o (Some t)) m r end y None granted E no_plan full)

    -- One that isn't prepared: a Prepare is done, and leaves it prepared; or memory or space is wanting, and it is
    -- over.
    module _ (bare : is_some t.prepared ≡ false) where
      pub prepare_ended : t.doomed ≡ false → Ended f (OnGroup Prepare) (with_txn o (Some t)) m r end y
          → ((r ≡ Done) × (end ≡ m) × (k : ℕ) × (y ≡ with_txn o (Some (record t { prepared = Some k })))) ⊎ ((is_spare r ≡ true) × (end ≡ m) × (y ≡ with_txn o None))
      prepare_ended intact E = of E.says
        where
          granted : refusal f (OnGroup Prepare) (with_txn o (Some t)) ≡ None
          granted = prepares f o t bare outer intact

          spared : is_spare r ≡ true → (is_spare r ≡ true) × (end ≡ m) × (y ≡ with_txn o None)
          spared spare = (
            spare,
            spare_map f (OnGroup Prepare) (with_txn o (Some t)) m r end y None granted E spare,
            spare_own f (OnGroup Prepare) (with_txn o (Some t)) m r end y None granted E spare,
          )

          of : Tells f (OnGroup Prepare) (with_txn o (Some t)) m r
              → ((r ≡ Done) × (end ≡ m) × (k : ℕ) × (y ≡ with_txn o (Some (record t { prepared = Some k })))) ⊎ ((is_spare r ≡ true) × (end ≡ m) × (y ≡ with_txn o None))
          of (tells_told told) =
              let is : r ≡ Done = told_reply f (OnGroup Prepare) (with_txn o (Some t)) m r end y None granted E told in
              let other : is_spare r ≡ false = ap is_spare is in
              let k : ℕ = cond (plans_in t) E.steps 0 in
              inl (
                is,
                other_map f (OnGroup Prepare) (with_txn o (Some t)) m r end y None granted E other,
                k,
                other_own f (OnGroup Prepare) (with_txn o (Some t)) m r end y None granted E other
                    ∙ ap (λ b. cond b (with_txn o (Some t)) (with_txn o (Some (record t { prepared = Some k })))) outer,
              )
          of (tells_memory is starving) = inr (spared (ap is_spare is))
          of (tells_full len need is full told) = inr (spared (ap is_spare is))

      -- A command on the map leaves the committed map, and changes that of the transaction as on a plain one; or
      -- nothing, for want of memory or space.
      pub map_ended : (c : MapCommand) → IsKeyed c → o.read_only ≡ false → Ended f (OnMap c) (with_txn o (Some t)) m r end y
          → (end ≡ m)
          × (((r ≡ reply c t.image) × (y ≡ with_txn o (Some (record t { image = after c t.image; changed = t.changed || (map_changes c && is_done (reply c t.image)) }))))
          ⊎ (((r ≡ Memory) ⊎ ((len : ℕ) × (need : ℕ) × (r ≡ Full len need) × (map_fills c ≡ true) × (reply c t.image ≡ Done))) × (y ≡ with_txn o (Some t))))
      map_ended c on writes E = of E.says
        where
          granted : refusal f (OnMap c) (with_txn o (Some t)) ≡ None
          granted = keyed f o t bare c on writes

          of : Tells f (OnMap c) (with_txn o (Some t)) m r
              → (end ≡ m)
              × (((r ≡ reply c t.image) × (y ≡ with_txn o (Some (record t { image = after c t.image; changed = t.changed || (map_changes c && is_done (reply c t.image)) }))))
              ⊎ (((r ≡ Memory) ⊎ ((len : ℕ) × (need : ℕ) × (r ≡ Full len need) × (map_fills c ≡ true) × (reply c t.image ≡ Done))) × (y ≡ with_txn o (Some t))))
          of (tells_told told) =
              let is : r ≡ reply c t.image = told_reply f (OnMap c) (with_txn o (Some t)) m r end y None granted E told in
              let other : is_spare r ≡ false = ap is_spare is ∙ reply_plain c t.image in
              (other_map f (OnMap c) (with_txn o (Some t)) m r end y None granted E other, inl (is, other_own f (OnMap c) (with_txn o (Some t)) m r end y None granted E other))
          of (tells_memory is starving) =
              let spare : is_spare r ≡ true = ap is_spare is in
              (spare_map f (OnMap c) (with_txn o (Some t)) m r end y None granted E spare, inr (inl is, spare_own f (OnMap c) (with_txn o (Some t)) m r end y None granted E spare))
          of (tells_full len need is full told) =
              let spare : is_spare r ≡ true = ap is_spare is in (
                spare_map f (OnMap c) (with_txn o (Some t)) m r end y None granted E spare,
                inr (
                  inr (len, need, is, sym (ap (λ z. fills_by z (OnMap c) (with_txn o (Some t))) granted) ∙ full, sym (ap (λ z. told_by z (OnMap c) (with_txn o (Some t)) m) granted) ∙ told),
                  spare_own f (OnMap c) (with_txn o (Some t)) m r end y None granted E spare,
                ),
              )
