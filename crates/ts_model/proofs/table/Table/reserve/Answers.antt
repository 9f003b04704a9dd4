use Rattle.ts_model.proofs.table.Table.reserve.Goals as goal
