-- Each event goes on from what there was.
use Rattle.std.proofs.Common.{refl, sym, subst}
use Rattle.zc_tape.specs.Tape.{Shape}
use Rattle.zc_pool.specs.declared.event.Event.{Event}
use Rattle.zc_pool.specs.EventAnswers.{MayAsk}
use Rattle.zc_pool.specs.Running.{IsPool}
use Rattle.zc_pool.specs.declared.event.Event.TheVariants as kind
use Rattle.zc_pool.proofs.EventLaws.{acks_made, acks_stepped}
use Rattle.zc_pool.proofs.RunningLaws.{goes_on, is_pool_still}
use Rattle.zc_pool.proofs.pool.Pool.event.Goals as goal

pub returns-in-Ask-clause-goes_on : goal.returns-in-Ask-clause-goes_on
returns-in-Ask-clause-goes_on g c =
    let pool = c.args.self.now in
    let shape = g.D.DiskSet.shape pool.disks in
    let tape = g.D.DiskSet.tape pool.disks in
    goes_on shape tape tape pool.root pool.root pool.kept c.ask.new.kept (c.ask.ensures.carries shape tape pool.root) refl

pub returns-in-Ask-clause-pool : goal.returns-in-Ask-clause-pool
returns-in-Ask-clause-pool g c =
    let pool = c.args.self.now in
    let shape = g.D.DiskSet.shape pool.disks in
    let tape = g.D.DiskSet.tape pool.disks in
    is_pool_still shape tape tape pool.root pool.root pool.kept c.ask.new.kept (c.ask.ensures.carries shape tape pool.root) c.requires.pool

pub returns-in-Step-clause-goes_on : goal.returns-in-Step-clause-goes_on
returns-in-Step-clause-goes_on g c =
    let pool = c.args.self.now in
    goes_on (g.D.DiskSet.shape pool.disks) (g.D.DiskSet.tape pool.disks) (g.D.DiskSet.tape c.step.new.disks) pool.root c.step.new.root pool.kept c.step.new.kept
    c.step.ensures.carries c.step.ensures.told

pub returns-in-Step-clause-pool : goal.returns-in-Step-clause-pool
returns-in-Step-clause-pool g c =
    let pool = c.args.self.now in
    subst (λ (shape : Shape). IsPool shape c.step.new.root c.step.new.kept) (sym c.step.ensures.shape)
    (is_pool_still (g.D.DiskSet.shape pool.disks) (g.D.DiskSet.tape pool.disks) (g.D.DiskSet.tape c.step.new.disks) pool.root c.step.new.root pool.kept c.step.new.kept
    c.step.ensures.carries c.requires.pool)

pub returns-in-Settle-clause-goes_on : goal.returns-in-Settle-clause-goes_on
returns-in-Settle-clause-goes_on g c =
    let pool = c.args.self.now in
    let shape = g.D.DiskSet.shape pool.disks in
    let tape = g.D.DiskSet.tape pool.disks in
    goes_on shape tape tape pool.root pool.root pool.kept c.settle.new.kept (c.settle.ensures.carries shape tape pool.root) refl

pub returns-in-Settle-clause-pool : goal.returns-in-Settle-clause-pool
returns-in-Settle-clause-pool g c =
    let pool = c.args.self.now in
    let shape = g.D.DiskSet.shape pool.disks in
    let tape = g.D.DiskSet.tape pool.disks in
    is_pool_still shape tape tape pool.root pool.root pool.kept c.settle.new.kept (c.settle.ensures.carries shape tape pool.root) c.requires.pool

pub returns-in-Ask-clause-acks : goal.returns-in-Ask-clause-acks
returns-in-Ask-clause-acks g c =
    acks_made c.args.self.now.kept c.ask.new.kept (kind.Ask c.in-Ask.session c.in-Ask.command) c.ask.result (subst (λ (event : Event). MayAsk c.args.self.now.kept event) c.in-Ask.is c.requires.may) c.ask.ensures.answers c.ask.ensures.memory

pub returns-in-Step-clause-acks : goal.returns-in-Step-clause-acks
returns-in-Step-clause-acks g c =
    let pool = c.args.self.now in
    acks_stepped (g.D.DiskSet.tape pool.disks) (g.D.DiskSet.tape c.step.new.disks) pool.root c.step.new.root pool.kept c.step.new.kept c.step.result c.step.ensures.answers c.step.ensures.memory

pub returns-in-Settle-clause-acks : goal.returns-in-Settle-clause-acks
returns-in-Settle-clause-acks g c =
    acks_made c.args.self.now.kept c.settle.new.kept (kind.Settle c.in-Settle.session) c.settle.result (subst (λ (event : Event). MayAsk c.args.self.now.kept event) c.in-Settle.is c.requires.may) c.settle.ensures.answers c.settle.ensures.memory
