-- `valid::reject` meets its contract: the steps of Rejecting.
use Rattle.valid.proofs.Rejecting.{reject-mark-pre, reject-keep-pre, reject_rejected}
use Rattle.valid.proofs.reject.Goals as goal

pub mark-requires : goal.mark-requires
mark-requires c =
    reject-mark-pre _ _ _ _ _ _ c.requires _ _ c.split_at_mut-marks.ensures.value c.split_at_mut-marks.ensures.front_len _ c.find_closest.ensures

pub keep-requires : goal.keep-requires
keep-requires c =
    reject-keep-pre _ _ _ _ _ _ c.requires _ _ c.split_at_mut-marks.ensures.value c.split_at_mut-marks.ensures.front_len _ c.find_closest.ensures _ c.mark.ensures

pub returns : goal.returns
returns c =
    reject_rejected _ _ _ _ _ _ c.requires _ _ c.split_at_mut-marks.ensures.value c.split_at_mut-marks.ensures.front_len _ c.find_closest.ensures _ c.mark.ensures _ _ c.keep.ensures
