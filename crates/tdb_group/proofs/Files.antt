-- What the commands of a group come to at one file.
use Rattle.std.proofs.Common.{◌≡◌, ℕ, Bool, true, false, Option, None, Some, refl, sym, ◌∙◌, ap, subst, inl, inr, ◌⊎◌}
use Rattle.std.specs.Prelude.{◌&&◌, ◌||◌, nat_le, nat_lt}
use Rattle.std.proofs.lemmas.Bool.{cases_eq}
use Rattle.tdb_disk.specs.History.{seen}
use Rattle.tdb_disk.specs.Stop.{LeavesOnly}
use Rattle.tdb_disk.proofs.Runs.{leaves_start}
use Rattle.tdb_space.specs.Form.{Form, form_in}
use Rattle.tdb_space.specs.Opening.{restored}
use Rattle.tdb_law.specs.Beginning.{beginning, nobody}
use Rattle.tdb_law.specs.Commands.{Command, MapCommand, Reply as LawReply, is_done}
use Rattle.tdb_law.specs.Commands.Command.{OnGroup, OnMap}
use Rattle.tdb_law.specs.Commands.GroupCommand.{Cancel, Commit, Prepare, Start}
use Rattle.tdb_law.specs.Images.{image_map}
use Rattle.tdb_law.specs.Lines.{joined_state}
use Rattle.tdb_law.specs.MapCommands.{after, map_changes, map_fills, reply as map_reply}
use Rattle.tdb_law.specs.Openers.{Map, Options, Own, Task, Txn, opened}
use Rattle.tdb_law.specs.Outcomes.{begun_txn}
use Rattle.tdb_law.specs.Replay.{Replay}
use Rattle.tdb_law.specs.Standing.{Stands}
use Rattle.tdb_law.specs.World.{State, IsSound}
use Rattle.tdb_law.proofs.Happening.{join_lawful}
use Rattle.tdb_law.proofs.Plainly.{beginning_lawful}
use Rattle.tdb_law.proofs.Tests.{never_true}
use Rattle.tdb_law.proofs.Walking.{put_else, put_here}
use Rattle.tdb_commands.specs.InLaw.{law_opener, law_reply, options_of}
use Rattle.tdb_locks.specs.declared.turn.Reply.{Reply}
use Rattle.tdb_locks.specs.declared.turn.Reply.TheVariants as Replied
use Rattle.tdb_world.specs.Loaded.{IsJustLoaded}
use Rattle.tdb_world.specs.OverFile.{OverFile}
use Rattle.tdb_world.specs.OverFiles.Openers.{HasJoined}
use Rattle.tdb_world.specs.States.{IsStateOf}
use Rattle.tdb_world.specs.Stops.{IsSafe}
use Rattle.tdb_world.proofs.Reopening.{state_reopens}
use Rattle.tdb_world.proofs.Stopping.{transactions_safe}
use Rattle.tdb_world.specs.Calm.{OpensToMap}
use Rattle.tdb_world.proofs.Calm.{rest_file}
use Rattle.tdb_group.specs.Commands.{Replies}
use Rattle.tdb_group.specs.Commands.Replies.{replies_full, replies_memory, replies_plain}
use Rattle.tdb_group.specs.Files.{maps}
use Rattle.tdb_group.specs.Members.{IsMember, IsUnderway, LeadsTo, Maps, form_of_file, options_of_file, with_txn}
use Rattle.tdb_group.specs.Turns.{CommandLeft, Ended}
use Rattle.tdb_group.proofs.Endings.{cancel_ended, commit_ended, map_ended, no_cancel_ended, prepare_ended, start_ended}
use Rattle.tdb_group.proofs.Plainly.{IsKeyed}
use Rattle.tdb_group.proofs.Turning.{same_none, unbegun}

-- A file in which no command has begun is read with the committed map; and if it is safe, a stop leaves what opens to
-- it.
module _ (m : Map) (x : Own) (w : OverFile) (M : IsMember m x None w) where
  none_begun : (o : ℕ) → M.replay.begun o ≡ None
  none_begun o = elim (cases_eq o 0) [
    | inl is ↦ same_none (M.replay.begun o) (M.state.task o) (ap M.state.task is ∙ M.command) (M.stands.same o)
    | inr ne ↦ unbegun m x None w M o ne
  ]

  pub member_read : m ≡ image_map (form_of_file w) (restored (form_of_file w) (seen w.history))
  member_read =
      sym (rest_file (form_of_file w) M.state M.replay M.sound M.stands none_begun ∙ M.map) ∙ (state_reopens w.world w.history M.state M.has).file

  pub member_opens : IsSafe (form_of_file w) w.history → LeavesOnly w.history w.history (OpensToMap (form_of_file w) m)
  member_opens safe =
      leaves_start w.history (OpensToMap (form_of_file w) m)
      (λ c left. record { image = restored (form_of_file w) (seen w.history); reopens = safe c left; map = member_read })

-- in its transaction it is safe
pub underway_safe : (prepared : Bool) (p : Maps) (w : OverFile) → IsUnderway prepared p w → IsSafe (form_of_file w) w.history
underway_safe prepared p w U =
    transactions_safe w.world w.history U.at.state 0 U.txn U.at.has (ap (λ (y : Own). y.txn) (sym (U.at.stands.owns 0) ∙ U.at.own))

-- a stop of a world just loaded, which is safe, leaves what opens to its file's map
pub loaded_stays : (w : OverFile) (state : State) → IsJustLoaded w.world w.history state → IsSafe (form_of_file w) w.history → LeavesOnly w.history w.history (OpensToMap (form_of_file w) state.file)
loaded_stays w state L safe =
    leaves_start w.history (OpensToMap (form_of_file w) state.file)
    (λ c left. record { image = restored (form_of_file w) (seen w.history); reopens = safe c left; map = (state_reopens w.world w.history state L.of_world).file })

-- The first opener of a world just loaded joined.
module _ (w v : OverFile) (who : ℕ) (J : HasJoined w v who) (state : State) (L : IsJustLoaded w.world w.history state) where
  abbrev f : Form
  f = form_of_file w

  abbrev o : Options
  o = options_of_file w

  abbrev first : Replay
  first = beginning o state.file state.number

  pub joined_member : IsMember state.file (with_txn (options_of_file v) None) None v
  joined_member =
      let begun = beginning_lawful f state o L.loaded in
      let after = J.leads w.history state L.of_world in
      let n = law_opener who in
      let zeroth : n ≡ 0 = after.2.first ∙ L.loaded.joined in
      let H = join_lawful f state after.0 n first begun.0 begun.1 after.2 in
      let same : f ≡ form_of_file v = ap form_in (sym J.memory.form.header) in
      let alike : o ≡ options_of_file v = ap options_of (sym J.memory.form.options) in
      let history : v.history ≡ w.history = ap (λ (z : OverFile). z.history) J.memory.file in
      record {
        state = after.0;
        has = subst (λ h. IsStateOf v.world h after.0) (sym history) after.1;
        sound = subst (λ g. IsSound g after.0) same H.sound;
        replay = joined_state f first n;
        stands = subst (λ g. Stands g after.0 (joined_state f first n)) same H.stands;
        map = refl;
        own = put_here first.own n (opened (first.own n)) 0 (sym zeroth) ∙ ap (λ z. with_txn z None) alike;
        others = λ p ne. put_else first.own n (opened (first.own n)) p (λ e. ne (e ∙ zeroth)) ∙ ap nobody alike;
        command = subst (λ z. after.0.task z ≡ None) zeroth after.2.nothing.task;
        fresh = after.2.stale ∙ L.loaded.stale;
      }

-- What the commands left.
module _ (m : Map) (w : OverFile) where
  abbrev options : Options
  options = options_of_file w

  abbrev form : Form
  form = form_of_file w

  -- in a member nothing is known by another name
  renamed : (n end : Map) (x y : Own) → end ≡ n → y ≡ x → IsMember end y None w → IsMember n x None w
  renamed n end x y map own M = subst (λ (z : Map × Own). IsMember z.0 z.1 None w) (λ j. (map j, own j)) M

  -- a Start that is done: a transaction on the committed map
  pub started : (u : Option Task) → options.read_only ≡ false → CommandLeft (OnGroup Start) u (with_txn options None) m w (Some Replied.Ok) → IsUnderway false (maps m m) w
  started u writes (end, y, E, M) = elim (start_ended form options m LawReply.Done end y writes E) [
    | inl done ↦ record {
      txn = begun_txn (with_txn options None) m;
      at = renamed m end (with_txn options (Some (begun_txn (with_txn options None) m))) y done.1 done.2 M;
      leads = record { image = refl; outer = refl; intact = refl; ready = refl };
      writes = writes;
    }
    | inr d ↦ absurd (let is = d.0 in cc is)
  ]

  -- and one that isn't: none
  pub unstarted : (u : Option Task) (reply : Reply) → options.read_only ≡ false → CommandLeft (OnGroup Start) u (with_txn options None) m w (Some reply) → (law_reply reply ≡ LawReply.Done → ⊥)
      → IsMember m (with_txn options None) None w
  unstarted u reply writes (end, y, E, M) not_done = elim (start_ended form options m (law_reply reply) end y writes E) [
    | inl done ↦ absurd (not_done done.0)
    | inr starved ↦ renamed m end (with_txn options None) y starved.1 starved.2 M
  ]

  -- a Cancel, in a transaction or without one
  pub cancelled : (u : Option Task) (t : Txn) (reply : Reply) → t.depth ≡ 1 → CommandLeft (OnGroup Cancel) u (with_txn options (Some t)) m w (Some reply) → IsMember m (with_txn options None) None w
  cancelled u t reply outer (end, y, E, M) =
      let over = cancel_ended form options m (law_reply reply) end y t (ap (λ d. nat_lt 1 d) outer) E in
      renamed m end (with_txn options None) y over.0 over.1 M

  pub not_cancelled : (u : Option Task) (reply : Reply) → CommandLeft (OnGroup Cancel) u (with_txn options None) m w (Some reply) → IsMember m (with_txn options None) None w
  not_cancelled u reply (end, y, E, M) =
      let over = no_cancel_ended form options m (law_reply reply) end y E in
      renamed m end (with_txn options None) y over.0 over.1 M

  -- a Commit of a prepared transaction
  pub committed : (u : Option Task) (n : Map) (t : Txn) (reply : Reply) → LeadsTo n true t → CommandLeft (OnGroup Commit) u (with_txn options (Some t)) m w (Some reply)
      → (law_reply reply ≡ LawReply.Done) × IsMember n (with_txn options None) None w
  committed u n t reply leads (end, y, E, M) =
      let done = commit_ended form options m (law_reply reply) end y t (ap (λ d. nat_lt 1 d) leads.outer) leads.ready (ap (λ d. nat_le d 1) leads.outer) leads.intact E in
      (done.0, renamed n end (with_txn options None) y (done.1 ∙ leads.image) done.2 M)

  -- a Prepare: a prepared transaction, or none any more
  module _ (u : Option Task) (n : Map) (t : Txn) (leads : LeadsTo n false t) (writes : options.read_only ≡ false) where
    pub prepared : CommandLeft (OnGroup Prepare) u (with_txn options (Some t)) m w (Some Replied.Ok) → IsUnderway true (maps m n) w
    prepared (end, y, E, M) = elim (prepare_ended form options m LawReply.Done end y t (ap (λ d. nat_lt 1 d) leads.outer) leads.ready leads.intact E) [
      | inl d ↦ record {
        txn = record t { prepared = Some d.2 };
        at = renamed m end (with_txn options (Some (record t { prepared = Some d.2 }))) y d.1 d.3 M;
        leads = record { image = leads.image; outer = leads.outer; intact = leads.intact; ready = refl };
        writes = writes;
      }
      | inr d ↦ absurd (let is = d.0 in never_true is)
    ]

    pub refused : (len need : ℕ) → CommandLeft (OnGroup Prepare) u (with_txn options (Some t)) m w (Some (Replied.Full len need)) → IsMember m (with_txn options None) None w
    refused len need (end, y, E, M) = elim (prepare_ended form options m (LawReply.Full len need) end y t (ap (λ d. nat_lt 1 d) leads.outer) leads.ready leads.intact E) [
      | inl d ↦ absurd (let is = d.0 in cc is)
      | inr d ↦ renamed m end (with_txn options None) y d.1 d.2 M
    ]

  -- a command on one key
  pub applied : (u : Option Task) (n : Map) (t : Txn) (c : Command) (on : MapCommand) (is : c ≡ OnMap on) (reply : Reply) → IsKeyed on → LeadsTo n false t → options.read_only ≡ false
      → CommandLeft c u (with_txn options (Some t)) m w (Some reply) → (last : Map) × Replies c n (law_reply reply) last × IsUnderway false (maps m last) w
  applied u n t c on is reply keyed leads writes (end, y, E, M) =
      let told = map_ended form options m (law_reply reply) end y t (ap (λ d. nat_lt 1 d) leads.outer) leads.ready on keyed writes
      (subst (λ z. Ended form z (with_txn options (Some t)) m (law_reply reply) end y) is E) in
      of told.0 told.1
    where
      later : Txn
      later = record t { image = after on t.image; changed = t.changed || (map_changes on && is_done (map_reply on t.image)) }

      same_txn : end ≡ m → y ≡ with_txn options (Some t) → IsUnderway false (maps m n) w
      same_txn map own = record { txn = t; at = renamed m end (with_txn options (Some t)) y map own M; leads = leads; writes = writes }

      spared : ((law_reply reply ≡ LawReply.Memory) ⊎ ((len : ℕ) × (need : ℕ) × (law_reply reply ≡ LawReply.Full len need) × (map_fills on ≡ true) × (map_reply on t.image ≡ LawReply.Done)))
          → Replies c n (law_reply reply) n
      spared (inl starved) = replies_memory starved refl
      spared (inr full) = replies_full on full.0 full.1 is full.3 (sym (ap (map_reply on) leads.image) ∙ full.4) full.2 refl

      of : end ≡ m → ((law_reply reply ≡ map_reply on t.image) × (y ≡ with_txn options (Some later)))
          ⊎ (((law_reply reply ≡ LawReply.Memory) ⊎ ((len : ℕ) × (need : ℕ) × (law_reply reply ≡ LawReply.Full len need) × (map_fills on ≡ true) × (map_reply on t.image ≡ LawReply.Done))) × (y ≡ with_txn options (Some t)))
          → (last : Map) × Replies c n (law_reply reply) last × IsUnderway false (maps m last) w
      of map (inl d) = (
        after on t.image,
        replies_plain on is (d.0 ∙ ap (map_reply on) leads.image) (ap (after on) leads.image),
        record {
          txn = later;
          at = renamed m end (with_txn options (Some later)) y map d.1 M;
          leads = record { image = refl; outer = leads.outer; intact = leads.intact; ready = leads.ready };
          writes = writes;
        },
      )
      of map (inr d) = (n, spared d.0, same_txn map d.1)
