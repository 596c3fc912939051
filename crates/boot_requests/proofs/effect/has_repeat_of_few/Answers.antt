use Rattle.std.proofs.Common.{◌≡◌, ◌<◌, true, false, length, get_or, take, sym, arith}
use Rattle.std.proofs.lemmas.Grind.{common_steps}
use Rattle.boot_requests.specs.Apply.{is_in}
use Rattle.boot_requests.proofs.Variables.OrderLists.{twice, once_more}
use Rattle.boot_requests.proofs.effect.has_repeat_of_few.Goals as goal

pub returns-then-contains : goal.returns-then-contains
returns-then-contains c =
    let i = c.loop-i.i in
    let numbers = c.args.numbers.now in
    let within : i < length numbers = omega arith in
    let found : is_in (take i numbers) (get_or numbers i 0) ≡ true = grind (arith, common_steps) in
    sym (twice numbers i within found)

pub loop-i-preserved : goal.loop-i-preserved
loop-i-preserved c =
    let i = c.loop-i.i in
    let numbers = c.args.numbers.now in
    let within : i < length numbers = omega arith in
    let new : is_in (take i numbers) (get_or numbers i 0) ≡ false = grind (arith, common_steps) in
    once_more numbers i within c.loop-i.invariant new
