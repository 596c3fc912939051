use Rattle.disk_files.proofs.Disks.{still_several}
use Rattle.disk_files.proofs.disk.with_found.Goals as goal

pub returns-in-Several : goal.returns-in-Several
returns-in-Several c = λ found are.
    still_several c.args.search c.in-Several._one c.in-Several._other found c.args.next.now c.in-Several.is are
