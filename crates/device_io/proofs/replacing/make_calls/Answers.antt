use Rattle.std.proofs.Common.{ap, refl}
use Rattle.std.specs.Result.{is_ok}
use Rattle.device_io.specs.Disk.{Unlink, Create, Write, Sync, Rename, SyncFolder}
use Rattle.device_io.proofs.Performing.{ends, fails, goes_on, not_ok}
use Rattle.device_io.proofs.replacing.make_calls.Goals as goal

pub returns-in_err-unlink : goal.returns-in_err-unlink
returns-in_err-unlink g c =
    fails Unlink _ (is_ok c.unlink.result) (is_ok c.from_residual.result) (g.D.Disk.made c.args.disk.now) (g.D.Disk.made c.unlink.new.self) c.unlink.ensures (ap is_ok c.in_err-unlink.was)
    (not_ok c.from_residual.result c.from_residual.ensures.0)

pub returns-in_err-create : goal.returns-in_err-create
returns-in_err-create g c =
    goes_on Unlink _ (is_ok c.unlink.result) (is_ok c.from_residual-in_err-create.result) (g.D.Disk.made c.args.disk.now) (g.D.Disk.made c.unlink.new.self) (g.D.Disk.made c.create.new.self) c.unlink.ensures (ap is_ok c.in_ok-unlink.was)
    (fails Create _ (is_ok c.create.result) (is_ok c.from_residual-in_err-create.result) (g.D.Disk.made c.unlink.new.self) (g.D.Disk.made c.create.new.self) c.create.ensures (ap is_ok c.in_err-create.was)
    (not_ok c.from_residual-in_err-create.result c.from_residual-in_err-create.ensures.0))

pub returns-in_err-write : goal.returns-in_err-write
returns-in_err-write g c =
    goes_on Unlink _ (is_ok c.unlink.result) (is_ok c.from_residual-in_err-write.result) (g.D.Disk.made c.args.disk.now) (g.D.Disk.made c.unlink.new.self) (g.D.Disk.made c.write.new.self) c.unlink.ensures (ap is_ok c.in_ok-unlink.was)
    (goes_on Create _ (is_ok c.create.result) (is_ok c.from_residual-in_err-write.result) (g.D.Disk.made c.unlink.new.self) (g.D.Disk.made c.create.new.self) (g.D.Disk.made c.write.new.self) c.create.ensures (ap is_ok c.in_ok-create.was)
    (fails (Write c.args.text.now) _ (is_ok c.write.result) (is_ok c.from_residual-in_err-write.result) (g.D.Disk.made c.create.new.self) (g.D.Disk.made c.write.new.self) c.write.ensures (ap is_ok c.in_err-write.was)
    (not_ok c.from_residual-in_err-write.result c.from_residual-in_err-write.ensures.0)))

pub returns-in_err-sync : goal.returns-in_err-sync
returns-in_err-sync g c =
    goes_on Unlink _ (is_ok c.unlink.result) (is_ok c.from_residual-in_err-sync.result) (g.D.Disk.made c.args.disk.now) (g.D.Disk.made c.unlink.new.self) (g.D.Disk.made c.sync.new.self) c.unlink.ensures (ap is_ok c.in_ok-unlink.was)
    (goes_on Create _ (is_ok c.create.result) (is_ok c.from_residual-in_err-sync.result) (g.D.Disk.made c.unlink.new.self) (g.D.Disk.made c.create.new.self) (g.D.Disk.made c.sync.new.self) c.create.ensures (ap is_ok c.in_ok-create.was)
    (goes_on (Write c.args.text.now) _ (is_ok c.write.result) (is_ok c.from_residual-in_err-sync.result) (g.D.Disk.made c.create.new.self) (g.D.Disk.made c.write.new.self) (g.D.Disk.made c.sync.new.self) c.write.ensures (ap is_ok c.in_ok-write.was)
    (fails Sync _ (is_ok c.sync.result) (is_ok c.from_residual-in_err-sync.result) (g.D.Disk.made c.write.new.self) (g.D.Disk.made c.sync.new.self) c.sync.ensures (ap is_ok c.in_err-sync.was)
    (not_ok c.from_residual-in_err-sync.result c.from_residual-in_err-sync.ensures.0))))

pub returns-in_err-rename : goal.returns-in_err-rename
returns-in_err-rename g c =
    goes_on Unlink _ (is_ok c.unlink.result) (is_ok c.from_residual-in_err-rename.result) (g.D.Disk.made c.args.disk.now) (g.D.Disk.made c.unlink.new.self) (g.D.Disk.made c.rename.new.self) c.unlink.ensures (ap is_ok c.in_ok-unlink.was)
    (goes_on Create _ (is_ok c.create.result) (is_ok c.from_residual-in_err-rename.result) (g.D.Disk.made c.unlink.new.self) (g.D.Disk.made c.create.new.self) (g.D.Disk.made c.rename.new.self) c.create.ensures (ap is_ok c.in_ok-create.was)
    (goes_on (Write c.args.text.now) _ (is_ok c.write.result) (is_ok c.from_residual-in_err-rename.result) (g.D.Disk.made c.create.new.self) (g.D.Disk.made c.write.new.self) (g.D.Disk.made c.rename.new.self) c.write.ensures (ap is_ok c.in_ok-write.was)
    (goes_on Sync _ (is_ok c.sync.result) (is_ok c.from_residual-in_err-rename.result) (g.D.Disk.made c.write.new.self) (g.D.Disk.made c.sync.new.self) (g.D.Disk.made c.rename.new.self) c.sync.ensures (ap is_ok c.in_ok-sync.was)
    (fails Rename _ (is_ok c.rename.result) (is_ok c.from_residual-in_err-rename.result) (g.D.Disk.made c.sync.new.self) (g.D.Disk.made c.rename.new.self) c.rename.ensures (ap is_ok c.in_err-rename.was)
    (not_ok c.from_residual-in_err-rename.result c.from_residual-in_err-rename.ensures.0)))))

pub returns : goal.returns
returns g c =
    goes_on Unlink _ (is_ok c.unlink.result) (is_ok c.sync_folder.result) (g.D.Disk.made c.args.disk.now) (g.D.Disk.made c.unlink.new.self) (g.D.Disk.made c.sync_folder.new.self) c.unlink.ensures (ap is_ok c.in_ok-unlink.was)
    (goes_on Create _ (is_ok c.create.result) (is_ok c.sync_folder.result) (g.D.Disk.made c.unlink.new.self) (g.D.Disk.made c.create.new.self) (g.D.Disk.made c.sync_folder.new.self) c.create.ensures (ap is_ok c.in_ok-create.was)
    (goes_on (Write c.args.text.now) _ (is_ok c.write.result) (is_ok c.sync_folder.result) (g.D.Disk.made c.create.new.self) (g.D.Disk.made c.write.new.self) (g.D.Disk.made c.sync_folder.new.self) c.write.ensures (ap is_ok c.in_ok-write.was)
    (goes_on Sync _ (is_ok c.sync.result) (is_ok c.sync_folder.result) (g.D.Disk.made c.write.new.self) (g.D.Disk.made c.sync.new.self) (g.D.Disk.made c.sync_folder.new.self) c.sync.ensures (ap is_ok c.in_ok-sync.was)
    (goes_on Rename _ (is_ok c.rename.result) (is_ok c.sync_folder.result) (g.D.Disk.made c.sync.new.self) (g.D.Disk.made c.rename.new.self) (g.D.Disk.made c.sync_folder.new.self) c.rename.ensures (ap is_ok c.in_ok-rename.was)
    (ends SyncFolder (is_ok c.sync_folder.result) (is_ok c.sync_folder.result) (g.D.Disk.made c.rename.new.self) (g.D.Disk.made c.sync_folder.new.self) c.sync_folder.ensures refl)))))
