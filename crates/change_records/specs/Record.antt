-- Records of changes, and the bytes of their files.
use Rattle.std.specs.Prelude.{ℕ, ◌<◌, ◌^◌, List, ◌∷◌, map, IsUtf8}
use Rattle.std.specs.Int.{w64, to_le_bytes}
use Rattle.std.specs.List.{AllByRecursion}
use Rattle.std.specs.String.{string_bytes}
use Rattle.uefi_vars.specs.Vars.{Variables, IsVars}
use Rattle.uefi_vars.specs.Set.{set_bytes}
use Rattle.machine_names.specs.MachineName.{IsMachineName}
use Rattle.change_records.specs.declared.record.Record.{Record}
use Rattle.change_records.specs.Fields.{HasFields}

-- a machine's name, the time in seconds since 1970, the words of the command, and the variables before and after
pub record RecordParts : Type 0 where
  pub machine : List ℕ
  pub time : ℕ
  pub words : List (List ℕ)
  pub before : Variables
  pub after : Variables

abbrev pub record_parts : Record → RecordParts
record_parts r = record {
  machine = r.machine;
  time = r.time;
  words = map string_bytes r.words.items;
  before = r.before;
  after = r.after;
}

-- Each part is one.
pub record IsRecord (r : RecordParts) : Type 0 where
  pub machine : IsMachineName r.machine
  pub time : r.time < 2 ^ 64
  pub words : AllByRecursion IsUtf8 r.words
  pub before : IsVars r.before
  pub after : IsVars r.after

-- the fields of its file: the name, the time in eight bytes, little-endian, two set files, and each word
abbrev pub record_fields : RecordParts → List (List ℕ)
record_fields r = r.machine ∷ to_le_bytes w64 r.time ∷ set_bytes r.before ∷ set_bytes r.after ∷ r.words

-- the bytes, all of them, spell the record
abbrev pub SpellsRecord : List ℕ → RecordParts → Type 0
SpellsRecord bytes r = IsRecord r × HasFields bytes (record_fields r)
