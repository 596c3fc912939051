-- what public contracts and the laws cite
pub mod Name
pub mod Family
pub mod Attributes
pub mod Vars
pub mod NameChanges
pub mod BootChange
pub mod Iter
pub mod Set
pub mod Fault
pub mod Order
pub mod Free
pub mod Plan
pub mod AtRisk
pub mod NamingChange
pub mod Words
pub mod Equality
pub mod PlanEquality
-- what private contracts cite
pub mod Records
pub mod ChangeRecords
pub mod Reader
pub mod ByNumber
pub mod NormalEntry
pub mod RiskOfVariable
