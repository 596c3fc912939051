-- Bytes that begin with a magic number have one.
use Rattle.boot_journal.specs.Bytes.{magic_1, magic_2}
use Rattle.boot_journal.proofs.JournalFiles.{begins_so}
use Rattle.boot_journal.proofs.reader.read_whole.Goals as goal

pub returns-then-starts_with-clause-bad_magic : goal.returns-then-starts_with-clause-bad_magic
returns-then-starts_with-clause-bad_magic c =
    λ none. absurd (begins_so c.args.bytes.now magic_2 c.starts_with.result c.starts_with.ensures.value c.if-starts_with.true (λ rest. (none rest).1))

pub returns-then-starts_with-2-clause-bad_magic : goal.returns-then-starts_with-2-clause-bad_magic
returns-then-starts_with-2-clause-bad_magic c =
    λ none. absurd (begins_so c.args.bytes.now magic_1 c.starts_with-2.result c.starts_with-2.ensures.value c.if-starts_with-2.true (λ rest. (none rest).0))
