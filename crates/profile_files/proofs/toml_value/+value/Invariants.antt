use Rattle.std.proofs.Common.{◌+◌, ◌*◌, ◌≤◌, length}
use denote.Text.{Utf8}
use denote.Shadow.{shadow}
use Rattle.profile_files.proofs.toml_value.+value.Given as goal

abbrev pub decreases-read_items : goal.decreases-read_items
decreases-read_items l = 2 * l.depth + 2

abbrev pub decreases-read_members : goal.decreases-read_members
decreases-read_members l = 2 * l.depth + 2

abbrev pub decreases-read_value : goal.decreases-read_value
decreases-read_value l = 2 * l.depth + 1

abbrev pub invariant-read_items-items : goal.invariant-read_items-items
invariant-read_items-items l = shadow (Utf8 l.rest) × (length l.rest ≤ length l.fn.text)

abbrev pub decreases-read_items-items : goal.decreases-read_items-items
decreases-read_items-items l = length l.rest

abbrev pub invariant-read_members-members : goal.invariant-read_members-members
invariant-read_members-members l = shadow (Utf8 l.rest) × (length l.rest ≤ length l.fn.text)

abbrev pub decreases-read_members-members : goal.decreases-read_members-members
decreases-read_members-members l = length l.rest
