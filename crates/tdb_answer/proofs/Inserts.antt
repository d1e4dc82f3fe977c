-- What an insert does, by what a store does.
use Rattle.std.proofs.Common.{◌≡◌, ℕ, Bool, true, false, List, None, Result, Ok, Err, refl, sym, ap, ◌∙◌}
use Rattle.std.specs.Prelude.{is_some, IsSome}
use Rattle.std.proofs.lemmas.Bool.{false≢true}
use Rattle.tdb_disk.specs.History.{History, seen}
use Rattle.tdb_cmdline.specs.declared.act.Verb.TheVariants.{Insert, Store}
use Rattle.tdb_open.specs.declared.halt.Fault.{Fault}
use Rattle.tdb_open.specs.declared.halt.Fault.TheVariants as F
use Rattle.tdb_space.specs.Form.{form_of}
use Rattle.tdb_space.specs.Pairs.{map_of}
use Rattle.tdb_answer.specs.declared.ending.Reply.{Reply}
use Rattle.tdb_answer.specs.declared.ending.Reply.TheVariants.{KeyThere}
use Rattle.tdb_answer.specs.Acts.{Acted}
use Rattle.tdb_answer.specs.Commands.Insert.{insert_reply}
use Rattle.tdb_answer.specs.Commands.Store.{store_reply}

abbrev is_key_there : Reply → Bool
is_key_there KeyThere = true
is_key_there reply = false

module _ (limit : ℕ) (key value : List ℕ) (old : History) where
  -- the key is there, and nothing was done
  replies_there : IsSome (map_of (form_of (seen old)) (seen old) key) → KeyThere ≡ insert_reply limit key value (seen old)
  replies_there there = sym (rw there refl)

  pub key_is_there : (now : History) → now ≡ old → IsSome (map_of (form_of (seen old)) (seen old) key) → Acted limit (Insert key value) old now (Ok KeyThere)
  key_is_there now same there =
      (replies_there there, record { done = λ is. absurd (false≢true (sym (ap is_key_there (replies_there there ∙ is)))); kept = λ _. same })

  -- it isn't, and what a store does is done
  module _ (none : map_of (form_of (seen old)) (seen old) key ≡ None) where
    same_reply : insert_reply limit key value (seen old) ≡ store_reply limit key value (seen old)
    same_reply = rw (ap is_some none) refl

    pub inserts_as_stores : (now : History) (r : Result Reply Fault) → Acted limit (Store key value) old now r → Acted limit (Insert key value) old now r
    inserts_as_stores now (Ok reply) acted =
        (acted.0 ∙ sym same_reply, record { done = λ is. acted.1.done (sym same_reply ∙ is); kept = λ other. acted.1.kept (λ is. other (same_reply ∙ is)) })
    inserts_as_stores now (Err F.Device) acted = acted
    inserts_as_stores now (Err F.Memory) acted = acted
    inserts_as_stores now (Err F.Log) acted = acted
