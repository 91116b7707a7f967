-- The specification of `layers`. `LayerCounts` holds the definitions that the contract of the public function and the theorems cite, `Inner` and `Layers`
-- those of private functions, `AddingLaws` laws. The other laws stand in proofs/.
pub mod LayerCounts
pub mod Inner
pub mod Layers
pub mod AddingLaws
