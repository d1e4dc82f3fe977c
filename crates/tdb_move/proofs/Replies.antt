-- What the commands of a move come to, by their replies.
use Rattle.std.proofs.Common.{◌≡◌, List, ℕ, Option, None, Some, refl, ◌∙◌, ap}
use Rattle.std.specs.FinMap.{get}
use Rattle.tdb_law.specs.Commands.{MapCommand, Reply}
use Rattle.tdb_law.specs.Commands.Command.{OnMap}
use Rattle.tdb_law.specs.Commands.MapCommand.{Fetch}
use Rattle.tdb_law.specs.Commands.Reply.{Done, KeyMissing, Value}
use Rattle.tdb_law.specs.MapCommands.{after, fetched, reply}
use Rattle.tdb_law.specs.Openers.{Map}
use Rattle.tdb_group.specs.Commands.{Replies}
use Rattle.tdb_group.specs.Commands.Replies.{replies_full, replies_memory, replies_plain}

same_command : (on one : MapCommand) → OnMap one ≡ OnMap on → on ≡ one
same_command on one e = cc e

-- a fetch leaves the map
pub fetch_keeps : (k : List ℕ) (m : Map) (r : Reply) (end : Map) → Replies (OnMap (Fetch k)) m r end → end ≡ m
fetch_keeps k m r end (replies_plain on is says leaves) = leaves ∙ ap (λ c. after c m) (same_command on (Fetch k) is)
fetch_keeps k m r end (replies_memory says leaves) = leaves
fetch_keeps k m r end (replies_full on len need is fills would says leaves) = leaves

fetched_value : (found : Option (List ℕ)) (v : List ℕ) → Value v ≡ fetched found → found ≡ Some v
fetched_value None v e = absurd (cc e)
fetched_value (Some w) v e = cc e

fetched_none : (found : Option (List ℕ)) → KeyMissing ≡ fetched found → found ≡ None
fetched_none None e = refl
fetched_none (Some w) e = absurd (cc e)

pub fetch_found : (k v : List ℕ) (m end : Map) → Replies (OnMap (Fetch k)) m (Value v) end → get m k ≡ Some v
fetch_found k v m end (replies_plain on is says leaves) = fetched_value (get m k) v (says ∙ ap (λ c. reply c m) (same_command on (Fetch k) is))
fetch_found k v m end (replies_memory says leaves) = absurd (cc says)
fetch_found k v m end (replies_full on len need is fills would says leaves) = absurd (cc says)

pub fetch_missed : (k : List ℕ) (m end : Map) → Replies (OnMap (Fetch k)) m KeyMissing end → get m k ≡ None
fetch_missed k m end (replies_plain on is says leaves) = fetched_none (get m k) (says ∙ ap (λ c. reply c m) (same_command on (Fetch k) is))
fetch_missed k m end (replies_memory says leaves) = absurd (cc says)
fetch_missed k m end (replies_full on len need is fills would says leaves) = absurd (cc says)

-- and what is done leaves the plain map afterwards
pub done_leaves : (on : MapCommand) (m end : Map) → Replies (OnMap on) m Done end → end ≡ after on m
done_leaves one m end (replies_plain on is says leaves) = leaves ∙ ap (λ c. after c m) (same_command on one is)
done_leaves one m end (replies_memory says leaves) = absurd (cc says)
done_leaves one m end (replies_full on len need is fills would says leaves) = absurd (cc says)
